-- Each operation on a seat of the running cache is a step of an execution.
use Rattle.std.specs.Prelude.{◌≡◌, ℕ, List, [], ◌∷◌, ◌++◌, ◌<◌, length, slice_index, slice_set}
use mathlib.Core.Option.{some}
use lib.ListN.{get_elem?}
use Rattle.atomic_table.specs.Table as table
use Rattle.mc_shared.specs.SeatPlays.{SeatPlay, SeatCut, says, kept_part, new_part}
use Rattle.mc_shared.specs.Steps.{joined_view}
use Rattle.mc_shared.specs.TableRule.{Ruled}
use Rattle.mc_shared.specs.Views.{View, Spent, spent_view}
use Rattle.mc_shared.specs.declared.layout.Layout.{Layout}
use Rattle.mc_executions.specs.Executions.{TableState, IsStep}

-- whatever proof the caller has that the rule allows the play, the state to which it leads is one step from the one that it meets
abbrev pub Leads : Layout → SeatPlay → Type 0
Leads l p =
    (s : TableState) (seat slots place : ℕ) (v : View) (held : List (ℕ × Unit {0})) (st : table.Step (Unit {0})) (leaves : ℕ → ℕ) → st.word ≡ place →
    (allows : table.Allows (Ruled l) slots seat (v, held) place leaves (says p st (v, held))) →
    (rule : Ruled l s) (fits : length s.homes ≡ slots) (mine : get_elem? s.views seat ≡ some v) (small : slice_index s.words place < 18446744073709551616) →
    let next = allows s rule fits mine small in
    let t = table.stepped s place (leaves (slice_index s.words place)) seat held next.0 next.1 in
    IsStep s t × Ruled l t

-- a cut that the rule allows leads to such a state
abbrev pub LeadsCut : Layout → SeatCut → Type 0
LeadsCut l c =
    (s : TableState) (seat : ℕ) (v : View) → table.Splits (Ruled l) seat v (kept_part c v) (new_part c v) → Ruled l s → get_elem? s.views seat ≡ some v →
    let t : TableState = record { words = s.words; homes = s.homes; views = slice_set s.views seat (kept_part c v) ++ new_part c v ∷ [] } in
    IsStep s t × Ruled l t

-- and so does a join
abbrev pub LeadsJoin : Layout → Type 0
LeadsJoin l =
    (s : TableState) (seat other : ℕ) (v w : View) → ¬ (w.role ≡ Spent) → table.Joins (Ruled l) seat v other w (joined_view v w) spent_view → Ruled l s → get_elem? s.views seat ≡ some v →
    ¬ (other ≡ seat) → get_elem? (slice_set s.views seat (joined_view v w)) other ≡ some w →
    let t : TableState = record { words = s.words; homes = s.homes; views = slice_set (slice_set s.views seat (joined_view v w)) other spent_view } in
    IsStep s t × Ruled l t

-- each play, each cut and each join: by their types the running cache has no others
pub record EachIsStep (l : Layout) : Type 0 where
  pub plays : (p : SeatPlay) → Leads l p
  pub cuts : (c : SeatCut) → LeadsCut l c
  pub joins : LeadsJoin l

abbrev pub EachIsAStep : Type 0
EachIsAStep = (l : Layout) → EachIsStep l
