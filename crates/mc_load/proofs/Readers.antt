-- Readers that have ended: one taken off the end, and what the gate refused them.
use Rattle.std.proofs.Common.{ℕ, ◌≡◌, ◌+◌, ◌<◌, ◌≤◌, List, [], ◌∷◌, ◌++◌, length, get_or, Option, Some, ap, inl, inr, sym, subst, ◌∙◌, arith}
use Rattle.std.specs.Prelude.{IfSome}
use Rattle.std.proofs.Math.Nat.{eq-or-lt_of_le}
use Rattle.std.proofs.Math.Seq.{get_or-append_seam}
use Rattle.std.proofs.lemmas.List.{get_or_append_left, length-append}
use Rattle.std.proofs.lemmas.Option.{same_Some}
use Rattle.mc_load.specs.Loads.{AreTrue, history_after}
use Rattle.mc_load.specs.Inside.Parted.{AreFirst, AreRest}
use Rattle.mc_load.specs.Inside.Refusals.{AreRefusedBy, IsFirstRefused}
use Rattle.mc_shared.specs.Records.{Opening, WriterRecord}
use Rattle.mc_shared.specs.Views.{IsFrontOf}
use Rattle.mc_check.specs.declared.record.Record.{Record}
use Rattle.mc_load.specs.Inside.Handles.{AreAllTold, cache_of}
use Rattle.mc_load.specs.declared.asked.Load.{Load}
use Rattle.mc_load.specs.declared.handle.CacheReader.{CacheReader}
use Rattle.mc_load.specs.declared.handle.Handle.{Handle}
use Rattle.mc_load.specs.declared.handle.Handle.TheVariants as handle
use Rattle.mc_load.proofs.Histories.{told_later}
use Rattle.mc_load.specs.declared.reader_thread.ReaderThread.{ReaderThread}
use Rattle.mc_load.specs.Inside.Workers.{AreWhole, HasEnded, HaveAllNoted, HaveEnded}

-- an element of a list that has some
pub some_element : {X : Type 0} (xs : List X) (n : ℕ) → n < length xs → X
some_element [] n low = absurd (omega (arith, low))
some_element (x ∷ xs) n low = x

-- an element less is left
pub first_less : {X : Type 0} (all xs rest : List X) (x : X) → xs ≡ rest ++ x ∷ [] → AreFirst xs all → AreFirst rest all
first_less {X} all xs rest x e first = λ n d low.
    sym (get_or_append_left rest (x ∷ []) d n low) ∙ (ap (λ (z : List X). get_or z n d) (sym e) ∙ first n d (omega (arith, ap length e, length-append rest (x ∷ []), low)))

-- and one more is known
pub rest_more : {X : Type 0} (P : X → Type 0) (all xs rest : List X) (x : X) → xs ≡ rest ++ x ∷ [] → AreFirst xs all → P x → AreRest P xs all → AreRest P rest all
rest_more {X} P all xs rest x e first one past = λ n d low high.
    let many : length xs ≡ length rest + 1 = ap length e ∙ length-append rest (x ∷ []) in
    elim (eq-or-lt_of_le low) [
      | inl here ↦
          subst P (sym (get_or-append_seam rest x [] d) ∙ (ap (λ (z : List X). get_or z (length rest) d) (sym e) ∙ (first (length rest) d (omega (arith, many)) ∙ ap (λ (k : ℕ). get_or all k d) here))) one
      | inr more ↦ past n d (omega (arith, many, more)) high
    ]

-- the call that the gate refused is one of the reader's
pub reader_seat : {V : ℕ} (may : ℕ → ℕ → Type 0) (load : Load) (ls : List (ReaderThread V)) (n call who : ℕ) → length ls ≡ load.readers → HaveEnded V load ls → AreRefusedBy may ls → who ≡ n + 1 → IsFirstRefused ls n call
    → (1 ≤ call) × ((1 ≤ who) × (who ≤ load.readers) × (call ≤ load.lookups)) × may who call
reader_seat {V} may load ls n call who many ended by place r =
    let end = subst (HasEnded V load n) (sym r.is) (ended n r.reader r.below) in
    let made : (1 ≤ call) × (call ≤ load.lookups) = subst (λ (x : Option ℕ). IfSome x (λ c. (1 ≤ c) × (c ≤ load.lookups))) r.refused end.refused in
    let mine = subst (λ (l : ReaderThread V). IfSome l.refused (λ c. may (n + 1) c)) (sym r.is) (by n r.reader r.below) in
    let told : may (n + 1) call = subst (λ (x : Option ℕ). IfSome x (λ c. may (n + 1) c)) r.refused mine in
    let low = r.below in (made.0, (omega arith, omega (arith, many), made.1), subst (λ (w : ℕ). may w call) (sym place) told)

-- if it refused nothing, each has noted all
pub all_noted : {V : ℕ} (load : Load) (ls : List (ReaderThread V)) → HaveEnded V load ls → AreWhole ls → HaveAllNoted load ls
all_noted load ls ended whole = λ n d low. record { many = (ended n d low).whole (whole n d low); drawn = (ended n d low).keys }

-- a reader's answers are true of the history of a writer that it has met
pub told_of_cache : {V : ℕ} (h : Handle V) (held : CacheReader V) (w : WriterRecord) (records : List (Record V)) → h ≡ handle.Cache held → cache_of h ≡ Some w.of → IsFrontOf held.reader.front w.acts → AreAllTold V h records
    → AreTrue (history_after V w.of.layout.shape w.acts) records
told_of_cache {V} h held w records is of begins told =
    let same : held.cache.now ≡ w.of = same_Some held.cache.now w.of (subst (λ (x : Handle V). cache_of x ≡ Some w.of) is of) in
    subst (λ (o : Opening). AreTrue (history_after V o.layout.shape w.acts) records) same
    (told_later V held.cache.now.layout.shape held.reader.front w.acts records begins (subst (λ (x : Handle V). AreAllTold V x records) is told))
