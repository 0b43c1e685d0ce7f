use Rattle.std.proofs.Common.{◌+◌, drop}
use Rattle.mc_plan.specs.Plans.{value_acts}
use Rattle.mc_writer.specs.Inside.Pens.{HasMadeUpTo}
use Rattle.mc_writer.proofs.pen.Pen.write_value.Given as goal

abbrev pub invariant-loop-j : goal.invariant-loop-j
invariant-loop-j g l = record { made : HasMadeUpTo g.row.V (value_acts l.fn.i 1 l.fn.value) (value_acts l.fn.i (l.j + 1) (drop l.j l.fn.value)) l.fn.self l.self }
