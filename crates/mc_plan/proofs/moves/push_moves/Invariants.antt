use Rattle.std.proofs.Common.{◌≡◌, ◌+◌, ◌*◌, ◌++◌, drop, length}
use Rattle.mc_plan.specs.Decisions.{acts_of_moves}
use Rattle.mc_plan.proofs.moves.push_moves.Given as goal

abbrev pub invariant-loop-m : goal.invariant-loop-m
invariant-loop-m l = record {
  many : length l.acts.items ≡ length l.initial.acts.items + 4 * l.m-index;
  left : l.acts.items ++ acts_of_moves (drop l.m-index l.moves) ≡ l.initial.acts.items ++ acts_of_moves l.moves;
}
