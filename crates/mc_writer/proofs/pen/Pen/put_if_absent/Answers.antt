use Rattle.std.proofs.Common.{ap}
use Rattle.mc_writer.specs.declared.pen.Pen.{Pen}
use Rattle.mc_writer.proofs.Rests.{marked_rests}
use Rattle.mc_writer.proofs.pen.Pen.put_if_absent.Goals as goal

pub returns-in-Taken-clause-rested : goal.returns-in-Taken-clause-rested
returns-in-Taken-clause-rested g c =
    let pen = c.args.self.now in
    marked_rests g.row.V pen.cells.now c.args.books.now pen.seat.now pen.of c.requires.rested c.in-Taken.item _ c.set_mark_unless_set.new.writer (ap (λ (p : Pen g.row.V). p.seat.now) c.vacancy.ensures.kept) c.set_mark_unless_set.ensures.acted
