use Rattle.std.proofs.Common.{◌≡◌}
use Rattle.thread_tests.proofs.marks.mark_half.Given as goal

abbrev pub invariant-loop-k : goal.invariant-loop-k
invariant-loop-k l = l.reader.of ≡ l.fn.reader.of
