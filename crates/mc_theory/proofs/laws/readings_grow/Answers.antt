use Rattle.mc_theory.proofs.Lists.Growth.{readings_grow}
use Rattle.mc_theory.proofs.laws.readings_grow.Goals as goal

pub returns : goal.returns
returns g c = readings_grow g.row.V
