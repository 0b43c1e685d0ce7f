use Rattle.std.proofs.Common.{arith}
use Rattle.mc_plan.specs.Decisions.{new_marks}
use Rattle.mc_plan.specs.Plans.{fill_acts}
use Rattle.mc_writer.proofs.Pens.{first_due, made_then, rest_due}
use Rattle.mc_writer.proofs.pen.Pen.make_filling.Goals as goal

pub fill-requires : goal.fill-requires
fill-requires g c =
    let sh = c.args.self.now.cells.now.layout.shape in
    (omega arith, (omega (arith, c.requires.width), (c.requires.width, (c.requires.item, (first_due g.row.V (fill_acts sh c.args.key c.args.value.now c.args.at c.args.item c.args.place) (new_marks c.args.policy c.args.item) _ c.requires.due, c.requires.parts)))))

pub mark_new-requires : goal.mark_new-requires
mark_new-requires g c = (omega arith, rest_due (new_marks c.args.policy c.args.item) c.fill.ensures.made c.requires.due)

pub returns : goal.returns
returns g c = record { made = made_then c.fill.ensures.made c.mark_new.ensures.made }
