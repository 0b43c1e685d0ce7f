use Rattle.mc_theory.proofs.laws.evictions_are_clear.Goals as goal
use Rattle.mc_theory.proofs.Lists.ClearReadings.{evicts_are_clear}

pub returns : goal.returns
returns g c = evicts_are_clear g.row.V
