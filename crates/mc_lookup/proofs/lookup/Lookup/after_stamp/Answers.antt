use Rattle.std.proofs.Common.{Some, refl, arith}
use Rattle.mc_lookup.specs.Machine.{shape_for}
use Rattle.mc_theory.specs.declared.access.Access.TheVariants as access
use Rattle.mc_lookup.specs.declared.stage.Stage.TheVariants as stage
use Rattle.mc_lookup.proofs.StageSteps.{takes_at, left_stamp}
use Rattle.mc_lookup.proofs.lookup.Lookup.after_stamp.Goals as goal

pub returns-clause-takes : goal.returns-clause-takes
returns-clause-takes g c =
    let l = c.args.self.now in
    let i = c.args.i in
    takes_at l _ (stage.Stamp i) (stage.Moment (Some i)) (access.Stamp i) c.args.word c.requires refl refl refl
    (λ f rs reply. left_stamp g.row.V (shape_for l) l.key l.tries l.version l.value l.since l.reply i c.args.word f rs reply l.whole)
    (omega arith)
