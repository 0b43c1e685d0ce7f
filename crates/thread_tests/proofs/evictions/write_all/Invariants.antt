use Rattle.std.proofs.Common.{◌≡◌}
use Rattle.thread_tests.proofs.evictions.write_all.Given as goal

abbrev pub invariant-loop-n : goal.invariant-loop-n
invariant-loop-n l = l.writer.of ≡ l.fn.writer.of
