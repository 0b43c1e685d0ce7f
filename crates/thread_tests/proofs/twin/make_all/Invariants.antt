use Rattle.std.proofs.Common.{◌≡◌}
use Rattle.thread_tests.specs.Twins.{IsTwinOf}
use Rattle.thread_tests.proofs.twin.make_all.Given as goal

abbrev pub invariant-loop-i : goal.invariant-loop-i
invariant-loop-i l = record {
  of : l.writer.of ≡ l.fn.writer.of;
  twin : IsTwinOf 1 l.world l.writer;
}
