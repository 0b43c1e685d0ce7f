use Rattle.mc_theory.proofs.laws.lawful_grows.Goals as goal
use Rattle.mc_theory.proofs.Lists.Growth.{lawful_grows}

pub returns : goal.returns
returns g c = lawful_grows g.row.V
