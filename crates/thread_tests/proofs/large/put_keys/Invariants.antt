use Rattle.std.proofs.Common.{◌≡◌}
use Rattle.thread_tests.proofs.large.put_keys.Given as goal

abbrev pub invariant-loop-key : goal.invariant-loop-key
invariant-loop-key l = l.writer.of ≡ l.fn.writer.of
