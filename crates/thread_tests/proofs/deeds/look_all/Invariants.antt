use Rattle.std.proofs.Common.{◌≡◌}
use Rattle.thread_tests.proofs.deeds.look_all.Given as goal

abbrev pub invariant-loop-i : goal.invariant-loop-i
invariant-loop-i l = l.reader.of ≡ l.fn.reader.of
