use Rattle.mc_theory.proofs.laws.changes_fit.Goals as goal
use Rattle.mc_theory.proofs.Lists.Ranges.{front_fits}

pub returns : goal.returns
returns g c = front_fits g.row.V
