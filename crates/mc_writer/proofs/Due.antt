-- One act that is due is made; plans whose parts are made one after the other.
use Rattle.std.proofs.Common.{ℕ, ◌≡◌, ◌+◌, ◌<◌, ◌≤◌, List, [], ◌∷◌, ◌++◌, ap, length, get_or, drop, add-one, drop-cons}
use Rattle.std.proofs.Math.ListN.{drop_of_length-le}
use Rattle.mc_words.specs.declared.shape.Shape.{Shape}
use Rattle.mc_theory.specs.Acts.{IsAllowed}
use Rattle.mc_theory.specs.Lists.{Made, state_of}
use Rattle.mc_theory.specs.Traces.{HasVersionSteps}
use Rattle.mc_theory.specs.declared.act.Act.{Act}
use Rattle.mc_theory.specs.declared.act.Act.TheVariants.{Item}
use Rattle.mc_plan.specs.declared.decision.Move.{Move}
use Rattle.mc_plan.specs.Decisions.{acts_of_moves}
use Rattle.mc_plan.specs.Due.{AreDue}
use Rattle.mc_plan.specs.Plans.{value_acts, move_acts}
use Rattle.mc_plan.proofs.Calls.DueActs as due

-- it is allowed, and within the limit
pub due_may : (V : ℕ) (sh : Shape) (all acts : List Made) (a : Act) (due : List Act) → AreDue V sh all acts (a ∷ due) → IsAllowed sh (state_of V sh acts) a × HasVersionSteps sh.limit (state_of V sh acts).version_steps a
due_may V sh all acts a rest d = let may = due.due_may V sh all acts a rest d in (may.0, may.1)

-- the others are due after it
pub due_made : (V : ℕ) (sh : Shape) (all acts : List Made) (a : Act) (due : List Act) → AreDue V sh all acts (a ∷ due) → AreDue V sh all (acts ++ record { act = a; bit = 0 } ∷ []) due
due_made V sh all acts a rest d = (due.due_may V sh all acts a rest d).2

-- ---- the words of a value
pub next_word : (i j : ℕ) (v : List ℕ) → j < length v → value_acts i (j + 1) (drop j v) ≡ Item i (j + 1) (get_or v j 0) ∷ value_acts i (j + 1 + 1) (drop (j + 1) v)
next_word i j v l = let parts : drop j v ≡ get_or v j 0 ∷ drop (j + 1) v = rw add-one (drop-cons v j 0 l) in ap (λ (xs : List ℕ). value_acts i (j + 1) xs) parts

pub no_words : (i n : ℕ) (v : List ℕ) → length v ≤ n → value_acts i (n + 1) (drop n v) ≡ []
no_words i n v l = ap (λ (xs : List ℕ). value_acts i (n + 1) xs) (drop_of_length-le v l)

-- ---- moves
pub next_move : (j : ℕ) (ms : List Move) (d : Move) → j < length ms → acts_of_moves (drop j ms) ≡ move_acts (get_or ms j d).key (get_or ms j d).word (get_or ms j d).from (get_or ms j d).to ++ acts_of_moves (drop (j + 1) ms)
next_move j ms d l = let parts : drop j ms ≡ get_or ms j d ∷ drop (j + 1) ms = rw add-one (drop-cons ms j d l) in ap acts_of_moves parts

pub no_moves : (n : ℕ) (ms : List Move) → length ms ≤ n → acts_of_moves (drop n ms) ≡ []
no_moves n ms l = ap acts_of_moves (drop_of_length-le ms l)
