use Rattle.mc_lookup.specs.declared.stage.Stage.TheVariants as stage
use Rattle.mc_lookup.proofs.StageSteps.{takes_next}
use Rattle.mc_lookup.proofs.lookup.Lookup.after.Goals as goal

pub returns-in-Mark : goal.returns-in-Mark
returns-in-Mark g c = takes_next c.args.self.now _ (stage.Mark c.in-Mark.i) c.args.word c.in-Mark.is (c.after_mark.ensures.takes c.args.word)
