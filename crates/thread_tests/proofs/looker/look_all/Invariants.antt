use Rattle.std.proofs.Common.{◌≡◌}
use Rattle.thread_tests.proofs.looker.look_all.Given as goal

abbrev pub invariant-loop-n : goal.invariant-loop-n
invariant-loop-n l = l.reader.of ≡ l.fn.reader.of
