use Rattle.std.proofs.Common.{◌≡◌}
use Rattle.mc_search.proofs.room.touch_moves.Given as goal

abbrev pub invariant-loop-slot : goal.invariant-loop-slot
invariant-loop-slot g l = record {
  same : g.P.Peek.words l.peek ≡ g.P.Peek.words l.initial.peek;
  kept : l.peek ≡ l.initial.peek;
}
