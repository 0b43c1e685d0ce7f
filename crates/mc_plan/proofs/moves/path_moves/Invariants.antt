use Rattle.std.proofs.Common.{◌≡◌, ◌+◌, ◌≤◌, drop, length}
use Rattle.mc_plan.specs.Decisions.{acts_of_moves}
use Rattle.mc_plan.specs.Moves.{AreKeys}
use Rattle.mc_plan.specs.Plans.{moves_acts}
use Rattle.mc_search.specs.Paths.{first_place}
use Rattle.mc_plan.proofs.moves.path_moves.Given as goal

abbrev pub invariant-loop-n : goal.invariant-loop-n
invariant-loop-n g l = record {
  within : l.n ≤ length l.path.places.items;
  same : g.P.Peek.words l.peek ≡ g.P.Peek.words l.initial.peek;
  kept : l.peek ≡ l.initial.peek;
  many : length l.moves.items + l.n ≡ length l.path.places.items;
  items : acts_of_moves l.moves.items ≡ moves_acts g.row.V l.checked.shape (g.P.Peek.words l.initial.peek) (drop l.n l.path.places.items) l.path.hole;
  to : l.to ≡ first_place (drop l.n l.path.places.items) l.path.hole;
  keys : AreKeys g.row.V l.checked.shape (g.P.Peek.words l.initial.peek) (drop l.n l.path.places.items);
}

abbrev pub decreases-loop-n : goal.decreases-loop-n
decreases-loop-n g l = l.n
