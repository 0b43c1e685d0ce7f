-- What is allowed, and what holds, when the progress of a deed is known.
use Rattle.std.proofs.Common.{ℕ, Bool, true, eqb, refl, ◌≡◌, ◌↔◌, List, Option, Some, None, IsTrue, subst, sym, ◌∙◌}
use Rattle.std.specs.Option.{MatchOption, is_some, option_eq}
use Rattle.std.proofs.lemmas.Bool.{false≢true, eqb-true, eq-eqb}
use Rattle.mc_words.specs.Standing.{NamesItem, Stands, OnlyAt, IsAbsent, IsPresent}
use Rattle.mc_words.specs.declared.shape.Shape.{Shape}
use Rattle.mc_theory.specs.Acts.{MayFrom}
use Rattle.mc_core.specs.Inside.Writers.{phase_at, StandsWell}
use Rattle.mc_theory.specs.declared.act.Act.{Act}
use Rattle.mc_core.specs.declared.progress.Progress.{Progress}
use Rattle.mc_core.specs.declared.written.Written.{Written}

-- what may be done when the progress is written in another way
pub may_at : (V : ℕ) (sh : Shape) (w : List ℕ) (hand : ℕ) (cleared : Option ℕ) (xs : Written V) (p q : Progress) (a : Act) → p ≡ q → MayFrom V sh w hand cleared (phase_at {V = V} xs p) a → MayFrom V sh w hand cleared (phase_at {V = V} xs q) a
may_at V sh w hand cleared xs p q a e m = subst (λ (y : Progress). MayFrom V sh w hand cleared (phase_at {V = V} xs y) a) e m

-- if a key stands once, no other slot names its item
pub only_one : (V : ℕ) (sh : Shape) (w : List ℕ) (k q i p g : ℕ) → OnlyAt V sh w k q i → Stands V sh w k p g → (r : ℕ) → NamesItem sh w r g → r ≡ p
only_one V sh w k q i p g only here r named =
    let st : Stands V sh w k r g = record { names = named; key = here.key } in
    (only.once r g st).0 ∙ sym (only.once p g here).0

-- ---- what was found: the item at which a key stands, or none
abbrev pub Found : ℕ → Shape → List ℕ → ℕ → Option ℕ → Type 0
Found V sh w k o = MatchOption o (IsAbsent V sh w k) (λ i. (q : ℕ) × Stands V sh w k q i)

-- an item was found just where the key stands somewhere
pub found_any : (V : ℕ) (sh : Shape) (w : List ℕ) (k : ℕ) (o : Option ℕ) (b : Bool) → Found V sh w k o → b ≡ is_some o → IsTrue b ↔ IsPresent V sh w k
found_any V sh w k (Some i) b at is = (λ h. (at.0, i, at.1), λ here. is)
found_any V sh w k None b none is = (λ h. absurd (false≢true (sym is ∙ h)), λ here. absurd (none here.0 here.1 here.2))

-- an item was found, and it is that one
pub found_it : (V : ℕ) (sh : Shape) (w : List ℕ) (k : ℕ) (o : Option ℕ) (i : ℕ) (b : Bool) → StandsWell V sh w k → Found V sh w k o → b ≡ option_eq eqb o (Some i) → IsTrue b ↔ ((q : ℕ) × Stands V sh w k q i)
found_it V sh w k (Some g) i b well at is = (
  (λ h. (at.0, subst (λ (y : ℕ). Stands V sh w k at.0 y) (eqb-true g i (sym is ∙ h)) at.1)),
  (λ here. is ∙ eq-eqb g i (well.once at.0 g here.0 i at.1 here.1).1),
)
found_it V sh w k None i b well none is = (λ h. absurd (false≢true (sym is ∙ h)), λ here. absurd (none here.0 i here.1))

-- an item was found, and it is the one that may be named there
pub found_that : (V : ℕ) (sh : Shape) (w : List ℕ) (k : ℕ) (o named : Option ℕ) (b : Bool) → StandsWell V sh w k → Found V sh w k o → true ≡ is_some o → b ≡ option_eq eqb o named → IsTrue b ↔ ((q : ℕ) × (i : ℕ) × Stands V sh w k q i × (named ≡ Some i))
found_that V sh w k (Some g) (Some i) b well at some is =
    let it = found_it V sh w k (Some g) i b well at is in
    (λ h. let here = it.0 h in (here.0, i, here.1, refl), λ may. it.1 (may.0, subst (λ (y : ℕ). Stands V sh w k may.0 y) (cc (may.3)) may.2))
found_that V sh w k (Some g) None b well at some is = (λ h. absurd (false≢true (sym is ∙ h)), λ may. absurd (cc (may.3)))
found_that V sh w k None named b well none some is = absurd (false≢true (sym some))
