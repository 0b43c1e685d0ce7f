use Rattle.std.proofs.Common.{◌≡◌, ◌+◌}
use Rattle.mc_lookup.specs.Machine.{slots_from, stage_of}
use Rattle.mc_reader.specs.Inside.Course.{Leads}
use Rattle.mc_reader.proofs.running_lookup.scan_four.Given as goal

abbrev pub invariant-loop-j : goal.invariant-loop-j
invariant-loop-j g l = record {
  leads : Leads g.row.V l.fn.cells.layout.shape l.fn.seat l.fn.lookup l.seat l.lookup;
  stage : stage_of {V = g.row.V} l.lookup ≡ slots_from (l.fn.from + l.j);
}
