-- What a clerk knows of the table, and how far it is in a call.
use Rattle.std.specs.Prelude.{ℕ, ◌≡◌, ◌+◌, ◌-◌, ◌≤◌, List, [], ◌++◌, take, length, slice_get, Option, Some, None, IsSome}
use Rattle.mc_words.specs.declared.shape.Shape.{Shape}
use Rattle.mc_words.specs.declared.policy.Policy.TheVariants.{Clock}
use Rattle.mc_words.specs.Checks.{policy_of, shape_of}
use Rattle.mc_theory.specs.Lists.{Made, AreAllowed}
use Rattle.mc_theory.specs.States.{State}
use Rattle.mc_theory.specs.declared.act.Act.{Act}
use Rattle.mc_theory.specs.declared.act.Act.TheVariants.{Hand}
use Rattle.mc_plan.specs.declared.answer.Answer.{Answer}
use Rattle.mc_plan.specs.declared.books.Books.{Books}
use Rattle.mc_plan.specs.declared.clerk.Clerk.{Clerk}
use Rattle.mc_plan.specs.declared.clerk.Stage.{Stage}
use Rattle.mc_plan.specs.declared.clerk.Stage.TheVariants.{Idle, Sweeping, Planned}
use Rattle.mc_plan.specs.Making.{IsQuiet}
use Rattle.mc_search.specs.Sweeps.{Swept, hand_acts, next_item}
use Rattle.mc_plan.specs.WholeCalls.{Call, IsSweepOf, acts_of, state_after_sweep}
use Rattle.mc_plan.specs.Books.{AreBooksOf, IsPlanned, IsSweeping}

-- the shape of the clerk's table
abbrev pub shape_of_clerk : {V : ℕ} → Clerk V → Shape
shape_of_clerk clerk = shape_of clerk.books.checked

-- between two calls the clerk, whose policy is CLOCK, knows the state
pub record Knows (V : ℕ) (clerk : Clerk V) (s : State V) : Type 0 where
  pub idle : clerk.stage ≡ Idle
  pub books : AreBooksOf V clerk.books s
  pub clock : policy_of clerk.books.checked ≡ Clock

-- the sweep of the call was made, and `many` acts of its plan
pub record MakesPlan (V : ℕ) (books : Books) (plan : List Act) (many : ℕ) (call : Call) (s : State V) (acts : List Made) (told : Answer) : Type 0 where
  pub sweep : List Swept
  pub others : List Made
  pub parts : acts ≡ hand_acts sweep ++ others
  pub hands : AreAllowed (shape_of books.checked) s (hand_acts sweep)
  pub sweeps : IsSweepOf V (shape_of books.checked) (policy_of books.checked) s sweep told
  pub planned : IsPlanned V books plan call s (state_after_sweep V (shape_of books.checked) s sweep) told
  pub fits : length plan ≤ 64
  pub within : many ≤ length plan
  pub done : acts_of others ≡ take many plan

-- how far the clerk is in the call, after these acts of it
abbrev pub IsAtStage : (V : ℕ) → Stage V → Books → List Act → ℕ → Call → State V → List Made → Type 0
IsAtStage V Idle books plan many call s acts = ⊥
IsAtStage V (Sweeping waiting) books plan many call s acts = (rs : List Swept) × IsSweeping V books waiting call s rs × IsSome (next_item waiting.sweep) × (many ≡ 0) × (acts ≡ hand_acts rs) × (plan ≡ [])
IsAtStage V (Planned told) books plan many call s acts = MakesPlan V books plan many call s acts told

-- the clerk is in the call, which began in state s, and these acts were made of it
pub record IsOn (V : ℕ) (clerk : Clerk V) (call : Call) (s : State V) (acts : List Made) : Type 0 where
  pub begun : IsQuiet V (shape_of_clerk clerk) s
  pub clock : policy_of clerk.books.checked ≡ Clock
  pub now : IsAtStage V clerk.stage clerk.books clerk.plan.items clerk.made call s acts

-- a call runs: its answer was not taken yet
abbrev pub StageHasCall : {V : ℕ} → Stage V → Type 0
StageHasCall Idle = ⊥
StageHasCall (Sweeping waiting) = IsSome (next_item waiting.sweep)
StageHasCall (Planned told) = Unit {0}

unfoldable pub HasCall : {V : ℕ} → Clerk V → Type 0
HasCall clerk = StageHasCall clerk.stage

-- the act that reads an item's bit
abbrev pub hand_of : Option ℕ → Option Act
hand_of None = None
hand_of (Some i) = Some (Hand i)

-- the act that is to be made next
abbrev pub next_in : {V : ℕ} → Stage V → List Act → ℕ → Option Act
next_in Idle plan many = None
next_in (Sweeping waiting) plan many = hand_of (next_item waiting.sweep)
next_in (Planned told) plan many = slice_get plan many

unfoldable pub next_act : {V : ℕ} → Clerk V → Option Act
next_act clerk = next_in clerk.stage clerk.plan.items clerk.made

-- how many acts are still to be made, at most
abbrev pub left_in : {V : ℕ} → Stage V → List Act → ℕ → ℕ
left_in Idle plan many = 0
left_in (Sweeping waiting) plan many = waiting.sweep.left + 64
left_in (Planned told) plan many = length plan - many

unfoldable pub acts_left : {V : ℕ} → Clerk V → ℕ
acts_left clerk = left_in clerk.stage clerk.plan.items clerk.made
