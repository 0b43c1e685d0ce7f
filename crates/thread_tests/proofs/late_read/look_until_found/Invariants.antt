use Rattle.std.proofs.Common.{◌≡◌}
use Rattle.thread_tests.proofs.late_read.look_until_found.Given as goal

abbrev pub invariant-loop-turn : goal.invariant-loop-turn
invariant-loop-turn l = l.reader.of ≡ l.fn.reader.of
