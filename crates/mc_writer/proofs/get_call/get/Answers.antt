use Rattle.std.proofs.Common.{◌∙◌}
use Rattle.mc_writer.proofs.Rests.{marked_rests}
use Rattle.mc_writer.proofs.get_call.get.Goals as goal

pub returns-in-Some-clause-rested : goal.returns-in-Some-clause-rested
returns-in-Some-clause-rested g c =
    marked_rests g.row.V c.args.cells.now c.args.books.now c.args.seat.now c.requires.of c.requires.rested c.in-Some.held.item _ c.set_mark_unless_set.new.writer (c.moment-at.ensures.seat ∙ c.look-found.ensures.seat) c.set_mark_unless_set.ensures.acted
