-- The changes that allowed acts determine by themselves are those of the state's history.
use Rattle.std.proofs.Common.{ℕ, ◌≡◌, Bool, true, false, List, [], ◌∷◌, ◌++◌, length, Option, refl, sym, ◌∙◌, ap, add-one}
use Rattle.std.specs.Prelude.{map}
use Rattle.std.proofs.lemmas.List.{append_assoc, append-nil}
use Rattle.mc_words.specs.History.{value_of}
use Rattle.mc_words.specs.declared.history.Change.{Change}
use Rattle.mc_words.specs.declared.history.Change.TheVariants as change
use Rattle.mc_words.specs.declared.shape.Shape.{Shape}
use Rattle.mc_theory.specs.Acts.{MayFrom}
use Rattle.mc_theory.specs.Effects.{after_act, history_after, phase_after, removal_of}
use Rattle.mc_theory.specs.Lists.{AreAllowed, Made, after_all}
use Rattle.mc_theory.specs.Phases.{Phase, Quiet, Filling, Keyed, Placed, Renewing, Removing, Removed, Moving, Moved, Closing, first_phase}
use Rattle.mc_theory.specs.Plain.{change_by, changes_by}
use Rattle.mc_theory.specs.States.{State}
use Rattle.mc_theory.specs.declared.act.Act.{Act}
use Rattle.mc_theory.specs.declared.act.Act.TheVariants.{Open, Slot, Item, Moment, Close, Hand, Mark}
use Rattle.mc_theory.specs.declared.act.Deed.{Deed}
use Rattle.mc_theory.specs.declared.act.Deed.TheVariants as deed

-- the deed that takes a key out
abbrev pub taking : Bool → Deed
taking false = deed.Remove
taking true = deed.Evict

-- while its moment is to come, the deed that is open, its key and the words written are those of the phase
abbrev pub IsUnderWay : ℕ → Phase → Deed → ℕ → List ℕ → Type 0
IsUnderWay V (Filling q) d k xs = (d ≡ deed.Fill) × (k ≡ q) × (xs ≡ [])
IsUnderWay V (Keyed q i ys) d k xs = (d ≡ deed.Fill) × (k ≡ q) × (xs ≡ ys)
IsUnderWay V (Placed q i ys) d k xs = (d ≡ deed.Fill) × (k ≡ q) × (xs ≡ ys)
IsUnderWay V (Renewing q ys) d k xs = (d ≡ deed.Renew) × (k ≡ q) × (xs ≡ ys)
IsUnderWay V (Removing q e) d k xs = (d ≡ taking e) × (k ≡ q)
IsUnderWay V (Removed q e) d k xs = (d ≡ taking e) × (k ≡ q)
IsUnderWay V _ d k xs = Unit {0}

-- it is so when the deed begins
under_way_opened : (V k : ℕ) (d : Deed) → IsUnderWay V (first_phase k d) d k []
under_way_opened V k deed.Fill = (refl, refl, refl)
under_way_opened V k deed.Renew = (refl, refl, refl)
under_way_opened V k deed.Remove = (refl, refl)
under_way_opened V k deed.Evict = (refl, refl)
under_way_opened V k deed.Move = tt

-- the key and the words are those of the phase
put_same : {V : ℕ} (k q : ℕ) (xs ys : List ℕ) → k ≡ q → xs ≡ ys → change_by {V = V} deed.Fill k xs ≡ change_by deed.Fill q ys
put_same {V} k q xs ys key written =
    ap (λ n. change_by {V = V} deed.Fill n xs) key ∙ ap (λ zs. change_by {V = V} deed.Fill q zs) written

-- and a key is taken out as the phase says
taken_whole : {V : ℕ} (e : Bool) (d : Deed) (k q : ℕ) (xs : List ℕ) → d ≡ taking e → k ≡ q → change_by {V = V} d k xs ≡ removal_of e q ∷ []
taken_whole {V} false d k q xs is key = ap (λ y. change_by {V = V} y k xs) is ∙ ap (λ n. change_by {V = V} deed.Remove n xs) key
taken_whole {V} true d k q xs is key = ap (λ y. change_by {V = V} y k xs) is ∙ ap (λ n. change_by {V = V} deed.Evict n xs) key

-- after one act more: the deed that is open then, and the same changes, those of the act being in the history
record GoesOn (V : ℕ) (p : Phase) (h : List (Change V)) (d : Deed) (k : ℕ) (xs : List ℕ) (a : Act) (more : List Act) : Type 0 where
  deed : Deed
  key : ℕ
  written : List ℕ
  under_way : IsUnderWay V (phase_after p a) deed key written
  same : h ++ changes_by d k xs (a ∷ more) ≡ history_after h p a ++ changes_by deed key written more

-- the change of the moment enters the history
moves_over : {A : Type 0} (h now made rest : List A) → made ≡ now → h ++ (made ++ rest) ≡ (h ++ now) ++ rest
moves_over h now made rest e = ap (λ y. h ++ (y ++ rest)) e ∙ sym (append_assoc h now rest)

-- each allowed act continues so
goes_on : (V : ℕ) (sh : Shape) (w : List ℕ) (hand : ℕ) (cleared : Option ℕ) (p : Phase) (h : List (Change V)) (d : Deed) (k : ℕ) (xs : List ℕ) (a : Act) (more : List Act)
    → MayFrom V sh w hand cleared p a → IsUnderWay V p d k xs → GoesOn V p h d k xs a more
goes_on V sh w hand cleared Quiet h d k xs (Open q e) more may at = record { deed = e; key = q; written = []; under_way = under_way_opened V q e; same = refl }
goes_on V sh w hand cleared Quiet h d k xs (Hand i) more may at = record { deed = d; key = k; written = xs; under_way = tt; same = refl }
goes_on V sh w hand cleared Quiet h d k xs (Mark i) more may at = record { deed = d; key = k; written = xs; under_way = tt; same = refl }
goes_on V sh w hand cleared (Filling q) h d k xs (Item i j x) more may at =
    record { deed = d; key = k; written = xs; under_way = at; same = ap (λ n. h ++ changes_by d k xs (Item i n x ∷ more)) may.2 }
goes_on V sh w hand cleared (Keyed q i ys) h d k xs (Item g j x) more may at =
    record { deed = d; key = k; written = xs ++ x ∷ []; under_way = (at.0, at.1, ap (λ zs. zs ++ x ∷ []) at.2); same = ap (λ n. h ++ changes_by d k xs (Item g n x ∷ more)) (may.1 ∙ add-one (length ys)) }
goes_on V sh w hand cleared (Keyed q i ys) h d k xs (Slot p x) more may at =
    record { deed = d; key = k; written = xs; under_way = at; same = refl }
goes_on V sh w hand cleared (Placed q i ys) h d k xs Moment more may at =
    let now : change_by {V = V} d k xs ≡ change.Put q (value_of V ys) ∷ [] = ap (λ y. change_by {V = V} y k xs) at.0 ∙ put_same k q xs ys at.1 at.2 in
    record { deed = d; key = k; written = xs; under_way = tt; same = moves_over h (change.Put q (value_of V ys) ∷ []) (change_by d k xs) (changes_by d k xs more) now }
goes_on V sh w hand cleared (Renewing q ys) h d k xs (Item i j x) more may at =
    record { deed = d; key = k; written = xs ++ x ∷ []; under_way = (at.0, at.1, ap (λ zs. zs ++ x ∷ []) at.2); same = ap (λ n. h ++ changes_by d k xs (Item i n x ∷ more)) (may.0 ∙ add-one (length ys)) }
goes_on V sh w hand cleared (Renewing q ys) h d k xs Moment more may at =
    let now : change_by {V = V} d k xs ≡ change.Put q (value_of V ys) ∷ [] = ap (λ y. change_by {V = V} y k xs) at.0 ∙ put_same k q xs ys at.1 at.2 in
    record { deed = d; key = k; written = xs; under_way = tt; same = moves_over h (change.Put q (value_of V ys) ∷ []) (change_by d k xs) (changes_by d k xs more) now }
goes_on V sh w hand cleared (Removing q e) h d k xs (Slot p x) more may at = record { deed = d; key = k; written = xs; under_way = at; same = refl }
goes_on V sh w hand cleared (Removed q e) h d k xs Moment more may at =
    record { deed = d; key = k; written = xs; under_way = tt; same = moves_over h (removal_of e q ∷ []) (change_by d k xs) (changes_by d k xs more) (taken_whole e d k q xs at.0 at.1) }
goes_on V sh w hand cleared (Moving q) h d k xs (Slot p x) more may at = record { deed = d; key = k; written = xs; under_way = tt; same = refl }
goes_on V sh w hand cleared (Moved q fresh) h d k xs (Slot p x) more may at = record { deed = d; key = k; written = xs; under_way = tt; same = refl }
goes_on V sh w hand cleared (Closing q) h d k xs Close more may at = record { deed = d; key = k; written = xs; under_way = tt; same = refl }
goes_on V sh w hand cleared _ h d k xs _ more may at = absurd may

-- the act without the bit that it read
abbrev pub act_of : Made → Act
act_of m = m.act

-- and so all acts one after the other
pub history_told : {V : ℕ} (sh : Shape) (s : State V) (ms : List Made) (d : Deed) (k : ℕ) (xs : List ℕ) → AreAllowed sh s ms → IsUnderWay V s.phase d k xs
    → (after_all sh s ms).history ≡ s.history ++ changes_by d k xs (map act_of ms)
history_told sh s [] d k xs allowed at = sym (append-nil s.history)
history_told {V} sh s (m ∷ ms) d k xs allowed at =
    let on = goes_on V sh s.words s.hand s.cleared s.phase s.history d k xs m.act (map act_of ms) allowed.0 at in
    history_told sh (after_act sh s m.act m.bit) ms on.deed on.key on.written allowed.1 on.under_way ∙ sym on.same
