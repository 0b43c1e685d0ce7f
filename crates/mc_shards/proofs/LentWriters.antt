-- Each step on the word of a shard's writer keeps its rule.
use Rattle.std.proofs.Common.{◌≡◌, ℕ, ◌<◌, List, [], ◌∷◌, ap, arith, get_or, get_or-set_same, length, length-set, refl, set, subst, sym, ◌∙◌, eqb}
use Rattle.std.specs.Prelude.{⊤}
use mathlib.Core.Option.{Option, some}
use lib.ListN.{get_elem?}
use prog.Atomic.{either}
use Rattle.atomic_table.proofs.Lists.{exchanged}
use Rattle.atomic_table.specs.Table.{Act, Allows, Me, State, Valid, carried_after, gives, keeps, put_back, stepped, takes}
use Rattle.std.specs.declared.snapshot.Snapshot.{Snapshot}
use Rattle.mc_shared.specs.Records.{WriterRecord}
use Rattle.mc_cache.specs.Resting.{IsFit}
use Rattle.mc_shards.specs.Lending.{HasTaken, IsKept}

abbrev Key : Type 0
Key = Snapshot WriterRecord

abbrev Words : Type 0
Words = State WriterRecord Key

abbrev Holder : Type 0
Holder = Me WriterRecord Key

abbrev Goes : (V n id : ℕ) (key : Key) → Words → Holder → (ℕ → Holder → Type 0) → ℕ → Type 0
Goes V n id key s m then x = (v : Key) × (a : Act WriterRecord) × Valid s.homes m.1 a × IsKept V key.value.of (stepped s 0 x id m.1 v a) × then (get_or s.words 0 0) (v, carried_after m.1 a)

-- the writer is taken, if it is there
pub takes_writer : (V n id : ℕ) (key : Key) (m : Holder) → m.0 ≡ key → m.1 ≡ [] → Allows (IsKept V key.value.of) n id m 0 (λ y. either (eqb y 0) 1 y) (λ found after. found ≡ 0 → (after.0 ≡ m.0) × HasTaken V after)
takes_writer V n id key m is empty s k long me small =
    let then : ℕ → Holder → Type 0 = λ found after. found ≡ 0 → (after.0 ≡ m.0) × HasTaken V after in
    let word : (x : ℕ) → get_or (set s.words 0 x) 0 0 ≡ x = λ x. get_or-set_same s.words 0 x 0 k.wide in
    exchanged (get_or s.words 0 0) 0 1 (Goes V n id key s m then)
    (λ here.
    let h = k.there here in
    let w : WriterRecord = h.0 in (
      m.0,
      takes 0 w,
      h.1,
      record { wide = omega (arith, k.wide, length-set s.words 0 1); there = λ z. absurd (omega (arith, z, word 1)) },
      λ z. (refl, (w, ap (λ (l : List (ℕ × WriterRecord)). (0, w) ∷ l) empty, subst (λ (x : Key). IsFit V x.value.of w) (sym is) h.2)),
    ))
    (λ out. (
      m.0,
      keeps,
      tt,
      record { wide = omega (arith, k.wide, length-set s.words 0 (get_or s.words 0 0)); there = λ z. absurd (out (sym (word (get_or s.words 0 0)) ∙ z)) },
      λ z. absurd (out z),
    ))

set_first : (hs : List (Option WriterRecord)) (x : Option WriterRecord) → 0 < length hs → get_elem? (set hs 0 x) 0 ≡ some x
set_first [] x l = absurd (omega (arith, l))
set_first (h ∷ hs) x l = refl

-- the writer is given back
pub gives_back : (V n id : ℕ) (key : Key) (m : Holder) → n ≡ 1 → m.0 ≡ key → HasTaken V m → Allows (IsKept V key.value.of) n id m 0 (λ y. 0) (λ found after. ⊤)
gives_back V n id key m one is out s k long me small =
    let w : WriterRecord = out.0 in (
      m.0,
      gives,
      tt,
      record {
        wide = omega (arith, k.wide, length-set s.words 0 0);
        there = λ z. (w, subst (λ (c : List (ℕ × WriterRecord)). get_elem? (put_back s.homes c) 0 ≡ some (some w)) (sym out.1) (set_first s.homes (some w) (omega (arith, long, one))), subst (λ (x : Key). IsFit V x.value.of w) is out.2);
      },
      tt,
    )
