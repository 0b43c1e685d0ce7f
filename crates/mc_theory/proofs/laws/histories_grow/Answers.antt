use Rattle.mc_theory.proofs.laws.histories_grow.Goals as goal
use Rattle.mc_theory.proofs.Lists.Histories.{history_rises}

pub returns : goal.returns
returns g c = history_rises g.row.V
