use Rattle.mc_theory.proofs.laws.fronts_stay.Goals as goal
use Rattle.mc_theory.proofs.Lists.Fronts.{front_append}

pub returns : goal.returns
returns g c = front_append g.row.V
