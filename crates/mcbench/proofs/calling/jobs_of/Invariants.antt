use Rattle.std.proofs.Common.{length}
use Rattle.mcbench.proofs.calling.jobs_of.Given as goal

abbrev pub invariant-loop-caller : goal.invariant-loop-caller
invariant-loop-caller g l = Unit {0}

abbrev pub decreases-loop-caller : goal.decreases-loop-caller
decreases-loop-caller g l = length l.callers.items
