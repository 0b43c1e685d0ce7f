use Rattle.std.proofs.Common.{◌≡◌}
use Rattle.thread_tests.proofs.turns.call_each.Given as goal

abbrev pub invariant-loop-n : goal.invariant-loop-n
invariant-loop-n l = l.pass.of ≡ l.fn.pass.of
