use Rattle.std.proofs.Common.{arith, [], ◌∷◌}
use Rattle.mc_theory.specs.declared.act.Act.TheVariants as act
use Rattle.mc_plan.specs.Plans.{renew_acts}
use Rattle.mc_writer.proofs.Pens.{first_due, made_then, rest_due}
use Rattle.mc_writer.proofs.pen.Pen.make_renewal.Goals as goal

pub renew-requires : goal.renew-requires
renew-requires g c = (omega arith, (omega (arith, c.requires.width), (c.requires.width, (first_due g.row.V (renew_acts c.args.key c.args.value.now c.args.at c.args.item) (act.Mark c.args.item ∷ []) _ c.requires.due, c.requires.parts))))

pub set_mark_unless_set-requires : goal.set_mark_unless_set-requires
set_mark_unless_set-requires g c = (omega arith, rest_due (act.Mark c.args.item ∷ []) c.renew.ensures.made c.requires.due)

pub returns : goal.returns
returns g c = record { made = made_then c.renew.ensures.made c.set_mark_unless_set.ensures.made }
