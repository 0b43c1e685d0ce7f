use Rattle.mc_shared.proofs.IdleActs.{meetings_agree}
use Rattle.mc_shared.proofs.laws.meetings_agree.Goals as goal

pub returns : goal.returns
returns c = meetings_agree
