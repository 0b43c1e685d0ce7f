-- What `cleared` remembers of the acts before.
use Rattle.std.proofs.Common.{ℕ, zero, suc, ◌≡◌, ◌<◌, List, [], ◌∷◌, ◌++◌, take, Option, Some, None, refl, sym, ◌∙◌, ap, subst, inl, inr, arith}
use Rattle.std.specs.Prelude.{slice_get}
use Rattle.std.proofs.lemmas.Bool.{cases_eq, ne_eqb, eq-eqb}
use Rattle.mc_theory.proofs.Lists.Fronts.{after_all-append}
use Rattle.mc_theory.specs.Acts.{IsAllowed, MayFrom}
use Rattle.mc_theory.specs.Effects.{after_act, cleared_after}
use Rattle.mc_theory.specs.Laws.{EvictsAreClear, OpensOrSweeps}
use Rattle.mc_theory.specs.Lists.{AreAllowed, IsLawful, Made, after_all, front}
use Rattle.mc_theory.specs.Phases.{Phase, Quiet}
use Rattle.mc_theory.specs.States.{State, opening}
use Rattle.mc_words.specs.Standing.{Stands}
use Rattle.mc_theory.specs.declared.act.Act.{Act}
use Rattle.mc_words.specs.declared.shape.Shape.{Shape}
use Rattle.mc_theory.specs.declared.act.Act.TheVariants.{Open, Slot, Item, Moment, Close, Hand, Mark}
use Rattle.mc_theory.specs.declared.act.Deed.TheVariants as deed

-- one more first element is the one at that place
take_at_place : (acts : List Made) (f : ℕ) (d : Made) → slice_get acts f ≡ Some d → take (suc f) acts ≡ take f acts ++ d ∷ []
take_at_place [] f d e = absurd (cc)
take_at_place (x ∷ xs) zero d e = let is : x ≡ d = cc in ap (λ y. y ∷ []) is
take_at_place (x ∷ xs) (suc f) d e = ap (λ y. x ∷ y) (take_at_place xs f d e)

-- past the end it is no more
take_past_place : (acts : List Made) (f : ℕ) → slice_get acts f ≡ None → take (suc f) acts ≡ take f acts
take_past_place [] zero e = refl
take_past_place [] (suc f) e = refl
take_past_place (x ∷ xs) zero e = absurd (cc)
take_past_place (x ∷ xs) (suc f) e = ap (λ y. x ∷ y) (take_past_place xs f e)

-- each act of an allowed list is allowed where it is made
allowed_at : {V : ℕ} (sh : Shape) (s : State V) (acts : List Made) (f : ℕ) (d : Made) → AreAllowed sh s acts → slice_get acts f ≡ Some d → IsAllowed sh (after_all sh s (take f acts)) d.act
allowed_at sh s [] f d l e = absurd (cc)
allowed_at {V} sh s (x ∷ xs) zero d l e = let is : x ≡ d = cc in subst (λ (y : Made). IsAllowed {V = V} sh s y.act) is l.0
allowed_at sh s (x ∷ xs) (suc f) d l e = allowed_at sh (after_act sh s x.act x.bit) xs f d l.1 e

-- a clear bit of item i was read, and nothing was opened or swept since
abbrev pub WasClear : List Made → ℕ → ℕ → Type 0
WasClear acts f i =
    (m : ℕ) × (m < f) × (slice_get acts m ≡ Some (record { act = Hand i; bit = 0 })) ×
    ((l : ℕ) (d : Made) → m < l → l < f → slice_get acts l ≡ Some d → OpensOrSweeps d.act → ⊥)

-- an act that neither opens nor sweeps leaves a clear reading
later : (acts : List Made) (f i : ℕ) → ((d : Made) → slice_get acts f ≡ Some d → OpensOrSweeps d.act → ⊥) → WasClear acts f i → WasClear acts (suc f) i
later acts f i none w = (
  w.0,
  omega (arith, w.1),
  w.2,
  λ l d a b e o. elim (cases_eq l f) [
    | inl h ↦ none d (subst (λ (y : ℕ). slice_get acts y ≡ Some d) h e) o
    | inr ne ↦ w.3 l d a (omega arith) e o
  ],
)

-- a hand that read a clear bit made one
hand_clear : (acts : List Made) (f g i b : ℕ) (o : Option ℕ) → slice_get acts f ≡ Some (record { act = Hand g; bit = b }) → cleared_after o (Hand g) b ≡ Some i → WasClear acts (suc f) i
hand_clear acts f g i b o e c =
    elim (cases_eq b 0) [
      | inl z ↦
          let is : g ≡ i = cc (rw (eq-eqb b 0 z) at c) in
          (f, omega arith, rw (z, is) at e, λ l d x y. absurd (omega arith))
      | inr ne ↦ absurd (cc (rw (ne_eqb b 0 ne) at c))
    ]

-- of the same place the same holds
not_it : (acts : List Made) (f : ℕ) (d x : Made) → slice_get acts f ≡ Some d → slice_get acts f ≡ Some x → OpensOrSweeps d.act → OpensOrSweeps x.act
not_it acts f d x a b o = let is : d ≡ x = cc in subst (λ (y : Made). OpensOrSweeps y.act) is o

-- an item that is cleared after one more act had a clear reading, then or before
one_more : (acts : List Made) (f i : ℕ) (o : Option ℕ) (a : Act) (b : ℕ) → slice_get acts f ≡ Some (record { act = a; bit = b }) → cleared_after o a b ≡ Some i → (o ≡ Some i → WasClear acts f i) → WasClear acts (suc f) i
one_more acts f i o (Hand g) b e c w = hand_clear acts f g i b o e c
one_more acts f i o (Open k d) b e c w = absurd (cc)
one_more acts f i o (Slot q x) b e c w = later acts f i (λ d h s. not_it acts f d (record { act = Slot q x; bit = b }) h e s) (w c)
one_more acts f i o (Item g j x) b e c w = later acts f i (λ d h s. not_it acts f d (record { act = Item g j x; bit = b }) h e s) (w c)
one_more acts f i o Moment b e c w = later acts f i (λ d h s. not_it acts f d (record { act = Moment; bit = b }) h e s) (w c)
one_more acts f i o Close b e c w = later acts f i (λ d h s. not_it acts f d (record { act = Close; bit = b }) h e s) (w c)
one_more acts f i o (Mark g) b e c w = later acts f i (λ d h s. not_it acts f d (record { act = Mark g; bit = b }) h e s) (w c)

-- the same of the next front
step_clear : (V : ℕ) (sh : Shape) (acts : List Made) (f i : ℕ) (o : Option Made) → slice_get acts f ≡ o → (front V sh acts (suc f)).cleared ≡ Some i → ((front V sh acts f).cleared ≡ Some i → WasClear acts f i) → WasClear acts (suc f) i
unfolding front
step_clear V sh acts f i None e c was =
    let same : (front V sh acts (suc f)).cleared ≡ (front V sh acts f).cleared = ap (λ y. (after_all sh (opening V sh) y).cleared) (take_past_place acts f e) in
    later acts f i (λ d h o. cc) (was (sym same ∙ c))
step_clear V sh acts f i (Some d) e c was =
    let same : (front V sh acts (suc f)).cleared ≡ cleared_after (front V sh acts f).cleared d.act d.bit =
    ap (λ y. (after_all sh (opening V sh) y).cleared) (take_at_place acts f d e) ∙ ap (λ (s : State V). s.cleared) (after_all-append sh (opening V sh) (take f acts) (d ∷ [])) in
    one_more acts f i (front V sh acts f).cleared d.act d.bit e (sym same ∙ c) was

-- so an item that is cleared had a clear reading
cleared_was : (V : ℕ) (sh : Shape) (acts : List Made) (f i : ℕ) → (front V sh acts f).cleared ≡ Some i → WasClear acts f i
unfolding front opening
cleared_was V sh acts zero i c = absurd (cc)
cleared_was V sh acts (suc f) i c = step_clear V sh acts f i (slice_get acts f) refl c (λ h. cleared_was V sh acts f i h)

-- an eviction that may open evicts a key at the cleared item
evict_may : (V : ℕ) (sh : Shape) (w : List ℕ) (hand : ℕ) (cleared : Option ℕ) (p : Phase) (k : ℕ) → MayFrom V sh w hand cleared p (Open k deed.Evict) → (q : ℕ) × (i : ℕ) × Stands V sh w k q i × (cleared ≡ Some i)
evict_may V sh w hand cleared Quiet k may = may.1
evict_may V sh w hand cleared _ k may = absurd may

pub evicts_are_clear : (V : ℕ) → EvictsAreClear V
unfolding front IsLawful
evicts_are_clear V sh acts j k b lawful e =
    let s = front V sh acts j in
    let may = evict_may V sh s.words s.hand s.cleared s.phase k (allowed_at sh (opening V sh) acts j (record { act = Open k deed.Evict; bit = b }) lawful e) in
    let was = cleared_was V sh acts j may.1 may.3 in
    (may.0, may.1, was.0, may.2, was.1, was.2, was.3)
