use Rattle.std.proofs.Common.{◌≡◌}
use Rattle.thread_tests.proofs.taken.put_objects.Given as goal

abbrev pub invariant-loop-object : goal.invariant-loop-object
invariant-loop-object l = l.writer.of ≡ l.fn.writer.of
