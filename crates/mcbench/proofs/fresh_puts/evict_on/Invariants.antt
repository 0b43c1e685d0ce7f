use Rattle.std.proofs.Common.{◌≡◌}
use Rattle.mcbench.proofs.fresh_puts.evict_on.Given as goal

abbrev pub invariant-loop : goal.invariant-loop
invariant-loop g l = l.writer.of ≡ l.fn.writer.of
