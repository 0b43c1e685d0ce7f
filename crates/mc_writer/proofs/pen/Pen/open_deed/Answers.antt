use Rattle.std.proofs.Common.{arith}
use Rattle.mc_theory.specs.declared.act.Act.TheVariants as act
use Rattle.mc_writer.proofs.Due.{due_may}
use Rattle.mc_writer.proofs.pen.Pen.open_deed.Goals as goal

pub open_deed_by-requires : goal.open_deed_by-requires
open_deed_by-requires g c =
    let pen = c.args.self.now in
    let d = c.requires.due in
    (omega arith, (pen.of, (c.requires.parts, due_may g.row.V pen.cells.now.layout.shape d.all pen.seat.now.acts (act.Open c.args.key c.args.deed) d.later d.due)))
