use Rattle.std.proofs.Common.{◌≡◌}
use Rattle.thread_tests.proofs.rows.check_rows_of.Given as goal

abbrev pub invariant-loop-n : goal.invariant-loop-n
invariant-loop-n l = record {
  writer : l.writer.of ≡ l.fn.writer.of;
  reader : l.reader.of ≡ l.fn.reader.of;
}
