use Rattle.std.proofs.Common.{◌≡◌}
use Rattle.thread_tests.specs.Twins.{IsTwinOf}
use Rattle.thread_tests.proofs.deeds.write_deeds.Given as goal

abbrev pub invariant-loop-n : goal.invariant-loop-n
invariant-loop-n l = record {
  of : l.writer.of ≡ l.fn.writer.of;
  twin : IsTwinOf 1 l.world l.writer;
}
