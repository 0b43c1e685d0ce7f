use Rattle.std.proofs.Common.{◌≡◌}
use Rattle.mc_lookup.specs.Machine.{IsRestart, stage_of, steps_left}
use Rattle.mc_reader.specs.Inside.Course.{IsOnCourse}
use Rattle.mc_reader.proofs.running_lookup.get.Given as goal

abbrev pub invariant-loop-seat : goal.invariant-loop-seat
invariant-loop-seat g l = record {
  way : IsOnCourse g.row.V l.fn.cells.layout.shape l.fn.key l.fn.seat l.seat l.lookup;
  key : l.lookup.key ≡ l.fn.key;
  stage : IsRestart (stage_of {V = g.row.V} l.lookup);
}

abbrev pub decreases-loop-seat : goal.decreases-loop-seat
decreases-loop-seat g l = steps_left {V = g.row.V} l.lookup
