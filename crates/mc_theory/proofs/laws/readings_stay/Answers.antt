use Rattle.mc_theory.proofs.laws.readings_stay.Goals as goal
use Rattle.mc_theory.proofs.Lists.Growth.{readings_stay}

pub returns : goal.returns
returns g c = readings_stay g.row.V
