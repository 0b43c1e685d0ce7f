use Rattle.std.proofs.Common.{◌≡◌}
use Rattle.mcbench.proofs.writes.get_all.Given as goal

abbrev pub invariant-loop-number : goal.invariant-loop-number
invariant-loop-number l = l.writer.of ≡ l.fn.writer.of
