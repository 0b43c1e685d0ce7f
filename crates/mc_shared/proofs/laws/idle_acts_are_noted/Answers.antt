use Rattle.mc_shared.proofs.IdleActs.{idle_acts_are_noted}
use Rattle.mc_shared.proofs.laws.idle_acts_are_noted.Goals as goal

pub returns : goal.returns
returns c = idle_acts_are_noted
