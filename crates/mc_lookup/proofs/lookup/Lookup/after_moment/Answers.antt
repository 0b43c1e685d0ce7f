use Rattle.std.proofs.Common.{refl, arith}
use Rattle.mc_lookup.specs.Machine.{held_by, held_for, shape_for}
use Rattle.mc_theory.specs.declared.access.Access.TheVariants as access
use Rattle.mc_lookup.specs.declared.stage.Stage.TheVariants as stage
use Rattle.mc_lookup.proofs.StageLaws.{feed_moment}
use Rattle.mc_lookup.proofs.StageSteps.{takes_at, read}
use Rattle.mc_lookup.proofs.lookup.Lookup.after_moment.Goals as goal

pub returns-clause-takes : goal.returns-clause-takes
returns-clause-takes g c =
    let l = c.args.self.now in
    takes_at l _ (stage.Moment c.args.hit) (stage.Last c.args.hit c.args.word) access.Moment c.args.word c.requires refl refl refl
    (λ f rs reply. feed_moment g.row.V (shape_for l) l.key l.tries l.version c.args.hit (held_for c.args.hit (held_by l)) (read access.Moment c.args.word f) rs reply refl)
    (omega arith)
