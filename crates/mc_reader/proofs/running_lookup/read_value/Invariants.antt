use Rattle.std.proofs.Common.{◌≡◌}
use Rattle.mc_lookup.specs.Machine.{values_from, stage_of}
use Rattle.mc_reader.specs.Inside.Course.{Leads}
use Rattle.mc_reader.proofs.running_lookup.read_value.Given as goal

abbrev pub invariant-loop-count : goal.invariant-loop-count
invariant-loop-count g l = record {
  leads : Leads g.row.V l.fn.cells.layout.shape l.fn.seat l.fn.lookup l.seat l.lookup;
  stage : stage_of {V = g.row.V} l.lookup ≡ values_from g.row.V l.fn.i l.count;
}
