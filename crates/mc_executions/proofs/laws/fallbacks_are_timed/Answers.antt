use Rattle.mc_executions.proofs.Fallbacks.{fallbacks_are_timed}
use Rattle.mc_executions.proofs.laws.fallbacks_are_timed.Goals as goal

pub returns : goal.returns
returns g c = fallbacks_are_timed g.row.V
