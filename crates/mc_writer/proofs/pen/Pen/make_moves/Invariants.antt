use Rattle.std.proofs.Common.{drop}
use Rattle.mc_plan.specs.Decisions.{acts_of_moves}
use Rattle.mc_writer.specs.Inside.Pens.{HasMadeUpTo}
use Rattle.mc_writer.proofs.pen.Pen.make_moves.Given as goal

abbrev pub invariant-loop-m : goal.invariant-loop-m
invariant-loop-m g l = record { made : HasMadeUpTo g.row.V (acts_of_moves l.fn.moves) (acts_of_moves (drop l.m-index l.fn.moves)) l.fn.self l.self }
