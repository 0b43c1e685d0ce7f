use Rattle.mc_executions.proofs.TimedLookups.{beside_is_timed}
use Rattle.mc_executions.proofs.laws.beside_is_timed.Goals as goal

pub returns : goal.returns
returns g c = beside_is_timed g.row.V
