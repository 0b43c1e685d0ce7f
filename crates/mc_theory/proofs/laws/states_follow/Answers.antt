use Rattle.mc_theory.proofs.laws.states_follow.Goals as goal
use Rattle.mc_theory.proofs.Lists.Growth.{states_follow}

pub returns : goal.returns
returns g c = states_follow g.row.V
