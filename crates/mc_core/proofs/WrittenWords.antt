-- The words that were written after a key, and where a key stands once.
use Rattle.std.proofs.Common.{ℕ, ◌≡◌, ◌+◌, ◌/◌, ◌<◌, ◌≤◌, Option, Some, None, refl, subst, List, [], ◌∷◌, ◌++◌, length, take, set, sym, ◌∙◌, ap, arith, length-append}
use Rattle.std.specs.Prelude.{◌↔◌}
use Rattle.std.proofs.lemmas.List.{length-take, take_all, take_at, set-append_left}
use Rattle.std.proofs.lemmas.Grind.{take-set_at}
use Rattle.mc_words.proofs.Payload.{payload_is}
use Rattle.mc_words.specs.Keys.{tag_of, alternate, IsBucketOf}
use Rattle.mc_words.specs.Places.{payload, IsPlace, slot_number, slot}
use Rattle.mc_words.specs.Standing.{Stands, OnlyAt, AgreesAt}
use Rattle.mc_words.specs.declared.place.Place.{Place}
use Rattle.mc_words.specs.declared.shape.Shape.{Shape}
use Rattle.mc_core.specs.Inside.Writers.{StandsWell, payload_in, phase_at}
use Rattle.mc_theory.specs.Inner.{Holds}
use Rattle.mc_theory.specs.Phases.{Quiet, Renewing, Moving}
use Rattle.mc_core.specs.declared.progress.Progress.{Progress}
use Rattle.mc_core.specs.declared.written.Written.{Written}
use Rattle.mc_words.specs.History.{map_value}
use Rattle.mc_words.specs.declared.history.Change.{Change}

-- an item's words after its key, written or not
pub many_words : {V : ℕ} (xs : Written V) → length (payload_in {V = V} xs) ≡ payload V
many_words {V} xs = omega (arith, xs.whole, length-append xs.value (xs.stamp ∷ []), payload_is V)

-- a word of the value is kept, or the stamp after them
pub kept_in_value : (v : List ℕ) (s c n x : ℕ) → n ≡ c → c < length v → take (c + 1) (set v n x ++ s ∷ []) ≡ take c (v ++ s ∷ []) ++ x ∷ []
kept_in_value v s c n x e l =
    ap (λ (i : ℕ). take (c + 1) (set v i x ++ s ∷ [])) e ∙ ap (take (c + 1)) (sym (set-append_left v (s ∷ []) c x l)) ∙ take-set_at (v ++ s ∷ []) c (c + 1) x refl (omega (arith, l, length-append v (s ∷ [])))

pub kept_as_stamp : (v : List ℕ) (s c x : ℕ) → length v ≡ c → take (c + 1) (v ++ x ∷ []) ≡ take c (v ++ s ∷ []) ++ x ∷ []
kept_as_stamp v s c x e =
    take_all (c + 1) (v ++ x ∷ []) (omega (arith, e, length-append v (x ∷ []))) ∙ ap (λ (ys : List ℕ). ys ++ x ∷ []) (sym (take_at v (s ∷ []) c e))

-- the first of them are as many as were written
written_are : {V : ℕ} (c : ℕ) (xs : Written V) → c ≤ payload V → length (take c (payload_in {V = V} xs)) ≡ c
written_are {V} c xs fits = omega (arith, length-take c (payload_in {V = V} xs), many_words {V = V} xs, fits)

-- the word after those that were written
pub next_word : (V c j all : ℕ) (xs : Written V) → all ≡ payload V → c ≤ payload V → ((j ≡ c + 1) × (j ≤ all)) ↔ ((j ≡ length (take c (payload_in {V = V} xs)) + 1) × (j ≤ payload V))
next_word V c j all xs e fits =
    let is = written_are {V = V} c xs fits in
    (λ h. (omega (arith, h.0, is), omega (arith, h.1, e)), λ h. (omega (arith, h.0, is), omega (arith, h.1, e)))

-- all words were written
pub all_words : (V c all : ℕ) (xs : Written V) → all ≡ payload V → c ≤ payload V → (c ≡ all) ↔ (length (take c (payload_in {V = V} xs)) ≡ payload V)
all_words V c all xs e fits =
    let is = written_are {V = V} c xs fits in
    (λ h. omega (arith, h, is, e), λ h. omega (arith, h, is, e))

-- the place across from where the key stands
pub across : (V : ℕ) (sh : Shape) (w : List ℕ) (k : ℕ) (at : Place) (i b x : ℕ) → StandsWell V sh w k → IsPlace sh at → Stands V sh w k (slot_number at) i →
    ((b ≡ alternate sh at.bucket (tag_of sh k)) × (x ≡ slot sh w (slot_number at))) ↔ ((q : ℕ) × (g : ℕ) × Stands V sh w k q g × (b ≡ alternate sh (q / 4) (tag_of sh k)) × (x ≡ slot sh w q))
across V sh w k at i b x well is st =
    let bucket : slot_number at / 4 ≡ at.bucket = omega (arith, is.in_bucket) in (
      λ h. (slot_number at, i, st, h.0 ∙ ap (λ y. alternate sh y (tag_of sh k)) (sym bucket), h.1),
      λ h.
          let same : h.0 ≡ slot_number at = (well.once h.0 h.1 (slot_number at) i h.2 st).0 in
          (h.3 ∙ ap (λ y. alternate sh (y / 4) (tag_of sh k)) same ∙ ap (λ y. alternate sh y (tag_of sh k)) bucket, h.4 ∙ ap (λ y. slot sh w y) same),
    )

-- a key that agrees stands well
pub only_well : (V : ℕ) (sh : Shape) (w : List ℕ) (k q i : ℕ) → OnlyAt V sh w k q i → StandsWell V sh w k
only_well V sh w k q i a = record {
  placed = λ p g st. subst (λ (y : ℕ). IsBucketOf sh k (y / 4)) (sym (a.once p g st).0) a.placed;
  once = λ p g r h st su. ((a.once p g st).0 ∙ sym (a.once r h su).0, (a.once p g st).1 ∙ sym (a.once r h su).1);
}

-- so does one that agrees with the history, whether it is held or not
pub agrees_well : (V : ℕ) (sh : Shape) (w : List ℕ) (k : ℕ) (o : Option (List ℕ)) → AgreesAt V sh w k o → StandsWell V sh w k
agrees_well V sh w k None a = record { placed = λ p g st. absurd (a p g st); once = λ p g r h st su. absurd (a p g st) }
agrees_well V sh w k (Some v) a = only_well V sh w k a.0 a.1 a.2

-- while nothing runs each key stands well, and so does the key of a renewal and of a move that was opened
pub quiet_well : (V : ℕ) (sh : Shape) (w : List ℕ) (h : List (Change V)) → Holds V sh w Quiet h → (k : ℕ) → StandsWell V sh w k
quiet_well V sh w h holds k = agrees_well V sh w k (map_value h k) (holds.agrees.keys k (λ e. cc))

-- the key that is renewed stands well
pub renewing_well : (V : ℕ) (sh : Shape) (w : List ℕ) (h : List (Change V)) (k : ℕ) (xs : List ℕ) → Holds V sh w (Renewing k xs) h → StandsWell V sh w k
renewing_well V sh w h k xs holds = let d = holds.deed in only_well V sh w k d.0.0 d.0.1 d.0.2

-- and so does the key whose item moves
pub moving_well : (V : ℕ) (sh : Shape) (w : List ℕ) (h : List (Change V)) (k : ℕ) → Holds V sh w (Moving k) h → StandsWell V sh w k
moving_well V sh w h k holds = let d = holds.deed in agrees_well V sh w k (Some d.0) d.2

-- what holds, when the progress is known
pub holds_at : (V : ℕ) (sh : Shape) (w : List ℕ) (h : List (Change V)) (xs : Written V) (p q : Progress) → p ≡ q → Holds V sh w (phase_at {V = V} xs p) h → Holds V sh w (phase_at {V = V} xs q) h
holds_at V sh w h xs p q e a = subst (λ (y : Progress). Holds V sh w (phase_at {V = V} xs y) h) e a

-- if all words were written, they are all
pub whole_written : (V c : ℕ) (xs : Written V) → length (take c (payload_in {V = V} xs)) ≡ payload V → payload_in {V = V} xs ≡ take c (payload_in {V = V} xs)
whole_written V c xs all = sym (take_all c (payload_in {V = V} xs) (omega (arith, length-take c (payload_in {V = V} xs), many_words {V = V} xs, all)))
