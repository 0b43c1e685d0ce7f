use Rattle.std.proofs.Common.{refl, arith}
use Rattle.std.proofs.lemmas.Bool.{cond_below}
use Rattle.mc_lookup.specs.declared.stage.Stage.TheVariants.{First, Over}
use Rattle.mc_lookup.specs.Machine.{IsRemainder}
use Rattle.mc_lookup.proofs.StageSteps.{both_refl}
use Rattle.mc_lookup.proofs.lookup.Lookup.try_again.Goals as goal

pub returns-then-self-eq0 : goal.returns-then-self-eq0
unfolding IsRemainder
returns-then-self-eq0 g c = record {
  shape = refl;
  key = refl;
  left = λ rs reply. rw c.if-self-eq0.true both_refl;
  most = omega arith;
  stage = rw c.if-self-eq0.true refl;
}

pub returns-else-self-eq0 : goal.returns-else-self-eq0
unfolding IsRemainder
returns-else-self-eq0 g c = record {
  shape = refl;
  key = refl;
  left = λ rs reply. both_refl;
  most = omega arith;
  stage = cond_below 0 c.args.self.now.tries First Over (omega (arith, c.if-self-eq0.false));
}
