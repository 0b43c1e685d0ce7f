-- Which items are free, as flags.
use Rattle.std.proofs.Common.{ℕ, zero, suc, ◌≡◌, ◌*◌, ◌<◌, Bool, true, false, List, [], ◌∷◌, length, get_or, refl, sym, ◌∙◌, inl, inr, arith}
use Rattle.std.specs.Prelude.{◌↔◌, IsTrue, not}
use Rattle.std.proofs.lemmas.Bool.{cases_Bool, false≢true}
use Rattle.std.proofs.lemmas.List.{get_or_default}
use Rattle.mc_words.specs.Standing.{HasFree}
use Rattle.mc_words.specs.Places.{slot}
use Rattle.mc_words.specs.declared.shape.Shape.{Shape}
use Rattle.mc_words.proofs.Frames.{moved_names}
use Rattle.mc_core.specs.Inside.Tables.{shape_of_table, words_of_table}
use Rattle.mc_core.specs.Inside.Writers.{downs, UsedIn, UsedWell, IsFreeItem}
use Rattle.mc_core.specs.declared.table.Table.{Table}

-- a flag that is down is that of a free item
pub flag_down : {V : ℕ} (t : Table V) (i : ℕ) (b : Bool) → UsedWell {V = V} t → i < (shape_of_table {V = V} t).items → b ≡ get_or t.used.items i b → IsTrue (not b) ↔ IsFreeItem (shape_of_table {V = V} t) (words_of_table {V = V} t) i
flag_down t i false u l e = (λ h. (l, u.unused i l (sym e)), λ h. refl)
flag_down {V} t i true u l e = (
  λ h. absurd (false≢true h),
  λ h.
      let is : get_or t.used.items i false ≡ true = get_or_default t.used.items i false true (omega (arith, l, t.flags)) ∙ sym e in
      let named = u.used i l is in
      absurd (h.1 named.0 named.1),
)

-- a list of flags of which some are down
down_at : (xs : List Bool) → 0 < downs xs → (i : ℕ) × (i < length xs) × (get_or xs i false ≡ false)
down_at [] l = absurd (omega arith)
down_at (false ∷ xs) l = (0, omega arith, refl)
down_at (true ∷ xs) l = let rest = down_at xs l in (suc rest.0, omega (arith, rest.1), rest.2)

-- and a list with such a flag has some
some_down : (xs : List Bool) (i : ℕ) → i < length xs → get_or xs i false ≡ false → 0 < downs xs
some_down [] i l e = absurd (omega arith)
some_down (false ∷ xs) i l e = omega arith
some_down (true ∷ xs) zero l e = absurd (false≢true (sym e))
some_down (true ∷ xs) (suc i) l e = some_down xs i (omega arith) e

-- some item is free exactly where some flag is down
pub some_free : {V : ℕ} (t : Table V) → UsedWell {V = V} t → (0 < t.free) ↔ HasFree (shape_of_table {V = V} t) (words_of_table {V = V} t)
some_free {V} t u = (
  λ h.
      let at = down_at t.used.items (omega (arith, u.many, h)) in
      let l : at.0 < (shape_of_table {V = V} t).items = omega (arith, at.1, t.flags) in
      (at.0, l, u.unused at.0 l at.2),
  λ h. elim (cases_Bool (get_or t.used.items h.0 false)) [
    | inl up ↦ let named = u.used h.0 h.1 up in absurd (h.2 named.0 named.1)
    | inr down ↦ let some = some_down t.used.items h.0 (omega (arith, h.1, t.flags)) down in omega (arith, some, u.many)
  ],
)

-- the flags are right as long as each slot keeps its word
pub used_kept : (sh : Shape) (w x : List ℕ) (flags : List Bool) (free : ℕ) → ((q : ℕ) → q < 4 * sh.buckets → slot sh x q ≡ slot sh w q) → UsedIn sh w flags free → UsedIn sh x flags free
used_kept sh w x flags free same u = record {
  used = λ i l e. let named = u.used i l e in (named.0, moved_names sh w x named.0 i (same named.0 named.1.in_table) named.1);
  unused = λ i l e q a. u.unused i l e q (moved_names sh x w q i (sym (same q a.in_table)) a);
  many = u.many;
}
