-- Acts that are allowed one after the other, and the state that they lead to.
use Rattle.std.proofs.Common.{ℕ, ◌≡◌, List, [], ◌∷◌, ◌++◌, refl, sym, subst}
use Rattle.mc_words.specs.declared.shape.Shape.{Shape}
use Rattle.mc_words.specs.Shapes.{IsShape}
use Rattle.mc_theory.specs.Acts.{IsAllowed}
use Rattle.mc_theory.specs.Effects.{after_act}
use Rattle.mc_theory.specs.Inner.{StateHolds, StateCounted}
use Rattle.mc_theory.specs.Lists.{AreAllowed}
use Rattle.mc_theory.specs.States.{State}
use Rattle.mc_theory.specs.declared.act.Act.{Act}
use Rattle.mc_theory.proofs.Invariant.VersionSteps.{counted_after}
use Rattle.mc_theory.proofs.Invariant.EachState.{holds_after}
use Rattle.mc_plan.specs.Making.{as_made, state_after_acts}

-- the acts are allowed one after the other, and lead from one state to the other
pub record Walk (V : ℕ) (sh : Shape) (s : State V) (acts : List Act) (t : State V) : Type 0 where
  pub allowed : AreAllowed sh s (as_made acts)
  pub leads : state_after_acts V sh s acts ≡ t

-- no acts leave the state as it is
pub walk_none : (V : ℕ) (sh : Shape) (s : State V) → Walk V sh s [] s
walk_none V sh s = record { allowed = tt; leads = refl }

-- one act, and then the others
pub walk_act : (V : ℕ) (sh : Shape) (s t : State V) (a : Act) (acts : List Act) → IsAllowed sh s a → Walk V sh (after_act sh s a 0) acts t → Walk V sh s (a ∷ acts) t
walk_act V sh s t a acts may w = record { allowed = (may, w.allowed); leads = w.leads }

-- some acts, and then the others
pub walk_then : (V : ℕ) (sh : Shape) (s t u : State V) (acts more : List Act) → Walk V sh s acts t → Walk V sh t more u → Walk V sh s (acts ++ more) u
walk_then V sh s t u [] more one two = subst (λ (x : State V). Walk V sh x more u) (sym one.leads) two
walk_then V sh s t u (a ∷ acts) more one two =
    walk_act V sh s u a (acts ++ more) one.allowed.0 (walk_then V sh (after_act sh s a 0) t u acts more (record { allowed = one.allowed.1; leads = one.leads }) two)

-- allowed acts keep what holds of a state
pub walk_holds : (V : ℕ) (sh : Shape) (s : State V) (acts : List Act) → IsShape sh → AreAllowed sh s (as_made acts) → StateHolds sh s → StateCounted sh s
    → StateHolds sh (state_after_acts V sh s acts) × StateCounted sh (state_after_acts V sh s acts)
walk_holds V sh s [] shape may holds counted = (holds, counted)
walk_holds V sh s (a ∷ acts) shape may holds counted =
    walk_holds V sh (after_act sh s a 0) acts shape may.1
    (holds_after sh s a 0 shape holds may.0)
    (counted_after V sh s.words s.hand s.cleared s.history s.version_steps s.phase a shape holds.agrees.size may.0 counted)
