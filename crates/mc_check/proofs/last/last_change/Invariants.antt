use Rattle.std.proofs.Common.{◌≤◌}
use Rattle.mc_check.specs.Inside.Last.{AreOthers}
use Rattle.mc_check.proofs.last.last_change.Given as goal

abbrev pub invariant-loop-before : goal.invariant-loop-before
invariant-loop-before g l = record {
  within : l.before ≤ l.fn.moment;
  others : AreOthers l.fn.history l.fn.key l.before l.fn.moment;
}

abbrev pub decreases-loop-before : goal.decreases-loop-before
decreases-loop-before g l = l.before
