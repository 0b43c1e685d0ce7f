use Rattle.std.proofs.Common.{◌≡◌}
use Rattle.mcbench.proofs.lookups.look_many.Given as goal

abbrev pub invariant-loop : goal.invariant-loop
invariant-loop l = l.reader.of ≡ l.fn.reader.of
