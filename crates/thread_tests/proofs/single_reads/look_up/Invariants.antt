use Rattle.std.proofs.Common.{◌≡◌}
use Rattle.mc_words.specs.Checks.{shape_of}
use Rattle.thread_tests.proofs.single_reads.look_up.Given as goal

abbrev pub invariant-loop-n : goal.invariant-loop-n
invariant-loop-n l = record {
  of : l.reader.of ≡ l.cells;
  shape : shape_of l.lookup.checked ≡ l.cells.layout.shape;
}
