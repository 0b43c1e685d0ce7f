use Rattle.mc_theory.proofs.laws.counts.Goals as goal
use Rattle.mc_theory.proofs.Lists.Bounds.{front_counted}

pub returns : goal.returns
returns g c = front_counted g.row.V
