-- Acts of a plan that are still to be made, as a writer makes them one after the other.
use Rattle.std.specs.Prelude.{ℕ, ◌≡◌, ◌≤◌, List, [], ◌∷◌, ◌++◌, Some}
use Rattle.mc_words.specs.declared.shape.Shape.{Shape}
use Rattle.mc_words.specs.Checks.{policy_of, shape_of}
use Rattle.mc_theory.specs.Acts.{IsAllowed}
use Rattle.mc_theory.specs.Lists.{Made, AreAllowed, state_of}
use Rattle.mc_theory.specs.Phases.{Quiet}
use Rattle.mc_theory.specs.States.{State}
use Rattle.mc_theory.specs.Traces.{HasVersionSteps}
use Rattle.mc_theory.specs.declared.act.Act.{Act}
use Rattle.mc_theory.specs.declared.act.Act.TheVariants.{Hand}
use Rattle.mc_search.specs.Sweeps.{Swept, hand_acts, next_item}
use Rattle.mc_plan.specs.WholeCalls.{AnsweredBy, Call, IsSweepOf, state_after_sweep}
use Rattle.mc_plan.specs.Books.{AreBooksOf, IsPlanned, IsSweeping}
use Rattle.mc_plan.specs.Making.{as_made, state_after_acts}
use Rattle.mc_plan.specs.declared.answer.Answer.{Answer}
use Rattle.mc_plan.specs.declared.books.Books.{Books}
use Rattle.mc_plan.specs.declared.waiting.Waiting.{Waiting}

-- these acts were made and those are due, and together they are all: each that is due is allowed after those before it, and the last one leaves the table quiet and within the limit
pub record AreDue (V : ℕ) (sh : Shape) (all acts : List Made) (due : List Act) : Type 0 where
  pub whole : acts ++ as_made due ≡ all
  pub allowed : AreAllowed sh (state_of V sh acts) (as_made due)
  pub quiet : (state_after_acts V sh (state_of V sh acts) due).phase ≡ Quiet
  pub within : (state_after_acts V sh (state_of V sh acts) due).version_steps ≤ sh.limit

-- the acts of a plan are due in the state where it was made
abbrev pub PlansAreDue : ℕ → Type 0
PlansAreDue V =
    (sh : Shape) (books : Books) (plan : List Act) (call : Call) (s m : State V) (told : Answer) (acts : List Made) → shape_of books.checked ≡ sh → state_of V sh acts ≡ m → IsPlanned V books plan call s m told →
    AreDue V sh (acts ++ as_made plan) acts plan

-- an act that is due is allowed, and an open leaves two version changes within the limit; once it is made, the others are due
abbrev pub DueActsCanBeMade : ℕ → Type 0
DueActsCanBeMade V =
    (sh : Shape) (all acts : List Made) (a : Act) (due : List Act) → AreDue V sh all acts (a ∷ due) →
    IsAllowed sh (state_of V sh acts) a × HasVersionSteps sh.limit (state_of V sh acts).version_steps a × AreDue V sh all (acts ++ record { act = a; bit = 0 } ∷ []) due

-- while the hand looks for an item, the readings that it made were allowed one after the other, and so is its next one
abbrev pub SweepsCanRead : ℕ → Type 0
SweepsCanRead V =
    (sh : Shape) (books : Books) (waiting : Waiting V) (call : Call) (acts : List Made) (rs : List Swept) → shape_of books.checked ≡ sh → IsSweeping V books waiting call (state_of V sh acts) rs →
    AreAllowed sh (state_of V sh acts) (hand_acts rs) × ((i : ℕ) → next_item waiting.sweep ≡ Some i → IsAllowed sh (state_of V sh (acts ++ hand_acts rs)) (Hand i))

-- a sweep and then all acts of a plan are a whole call with its answer, and the books are those of the state after it
abbrev pub PlansEndCalls : ℕ → Type 0
PlansEndCalls V =
    (sh : Shape) (books : Books) (plan : List Act) (call : Call) (acts : List Made) (rs : List Swept) (told : Answer) → shape_of books.checked ≡ sh → AreAllowed sh (state_of V sh acts) (hand_acts rs) → IsSweepOf V sh (policy_of books.checked) (state_of V sh acts) rs told →
    IsPlanned V books plan call (state_of V sh acts) (state_after_sweep V sh (state_of V sh acts) rs) told →
    AnsweredBy V sh (policy_of books.checked) call (state_of V sh acts) (hand_acts rs ++ as_made plan) told × AreBooksOf V books (state_of V sh (acts ++ (hand_acts rs ++ as_made plan)))
