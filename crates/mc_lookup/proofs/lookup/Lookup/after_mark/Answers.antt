use Rattle.std.proofs.Common.{refl, arith}
use Rattle.mc_theory.specs.declared.access.Access.TheVariants as access
use Rattle.mc_lookup.specs.declared.stage.Stage.TheVariants as stage
use Rattle.mc_lookup.proofs.StageLaws.{feed_mark}
use Rattle.mc_lookup.proofs.StageSteps.{takes_at, read}
use Rattle.mc_lookup.proofs.lookup.Lookup.after_mark.Goals as goal

pub returns-clause-takes : goal.returns-clause-takes
returns-clause-takes g c = λ word.
    let l = c.args.self.now in
    takes_at l _ (stage.Mark c.args.i) stage.Over (access.Mark c.args.i) word c.requires refl refl refl
    (λ f rs reply. feed_mark c.args.i (read (access.Mark c.args.i) word f) rs reply l.reply refl)
    (omega arith)
