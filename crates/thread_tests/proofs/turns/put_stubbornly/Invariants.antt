use Rattle.std.proofs.Common.{◌≡◌}
use Rattle.thread_tests.proofs.turns.put_stubbornly.Given as goal

abbrev pub invariant-loop-turn : goal.invariant-loop-turn
invariant-loop-turn l = l.pass.of ≡ l.fn.pass.of
