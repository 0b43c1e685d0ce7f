use Rattle.std.proofs.Common.{◌≡◌, ◌+◌, ◌*◌, take}
use Rattle.mc_load.specs.Loads.{is_absent, is_busy, is_found, total_of}
use Rattle.mc_load.specs.Inside.Workers.{answers_of}
use Rattle.mc_load.proofs.summing.answers_of.Given as goal

abbrev pub invariant-loop-n : goal.invariant-loop-n
invariant-loop-n g l = record {
  lookups : l.report.lookups ≡ l.n * l.fn.load.lookups;
  sum : l.report.found + l.report.absent + l.report.busy ≡ l.report.lookups;
  wrong : l.report.wrong ≡ 0;
  found : l.report.found ≡ total_of is_found (answers_of (take l.n l.fn.reader_threads));
  absent : l.report.absent ≡ total_of is_absent (answers_of (take l.n l.fn.reader_threads));
  busy : l.report.busy ≡ total_of is_busy (answers_of (take l.n l.fn.reader_threads));
}
