use Rattle.std.proofs.Common.{[]}
use Rattle.mc_plan.specs.WholeCalls.{Call}
use Rattle.mc_plan.specs.Books.{IsSweeping}
use Rattle.mc_plan.specs.declared.books.Books.{Books}
use Rattle.mc_writer.specs.Inside.Pens.{IsSamePen, state_at}
use Rattle.mc_writer.specs.Inside.Turns.{HasTurned}
use Rattle.mc_writer.proofs.pen.Pen.turn_round.Given as goal

abbrev pub invariant-loop-i : goal.invariant-loop-i
invariant-loop-i g l = record {
  same : IsSamePen g.row.V l.fn.self l.self;
  turned : (b : Books) (call : Call) → IsSweeping g.row.V b l.fn.waiting call (state_at g.row.V l.fn.self) [] → HasTurned g.row.V b l.waiting call l.fn.self l.self;
}

abbrev pub decreases-loop-i : goal.decreases-loop-i
decreases-loop-i g l = l.waiting.sweep.left
