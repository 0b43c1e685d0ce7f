use Rattle.std.proofs.Common.{◌≡◌}
use Rattle.mcbench.proofs.writes.put_all.Given as goal

abbrev pub invariant-loop-n : goal.invariant-loop-n
invariant-loop-n l = l.writer.of ≡ l.fn.writer.of
