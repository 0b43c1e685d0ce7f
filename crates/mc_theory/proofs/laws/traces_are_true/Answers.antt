use Rattle.mc_theory.proofs.laws.traces_are_true.Goals as goal
use Rattle.mc_theory.proofs.Events.ReachedTraces.{traces_are_true}

pub returns : goal.returns
returns g c = traces_are_true g.row.V
