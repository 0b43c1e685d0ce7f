use Rattle.mc_lookup.specs.Machine.{IsRemainder}
use Rattle.mc_lookup.proofs.StageSteps.{both_refl}
use Rattle.mc_lookup.proofs.lookup.Lookup.begin.Goals as goal

pub returns-clause-left : goal.returns-clause-left
unfolding IsRemainder
returns-clause-left g c = λ rs reply. rw c.shape.ensures both_refl
