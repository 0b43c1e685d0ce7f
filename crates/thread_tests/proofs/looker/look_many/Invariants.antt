use Rattle.std.proofs.Common.{◌≡◌}
use Rattle.thread_tests.proofs.looker.look_many.Given as goal

abbrev pub invariant-loop-first : goal.invariant-loop-first
invariant-loop-first l = l.reader.of ≡ l.fn.reader.of
