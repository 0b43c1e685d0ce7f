use Rattle.mc_theory.proofs.laws.hand_stays.Goals as goal
use Rattle.mc_theory.proofs.Lists.Bounds.{front_hand}

pub returns : goal.returns
returns g c = front_hand g.row.V
