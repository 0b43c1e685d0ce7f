use Rattle.mc_executions.proofs.TimedLookups.{gets_are_timed}
use Rattle.mc_executions.proofs.laws.gets_are_timed.Goals as goal

pub returns : goal.returns
returns g c = gets_are_timed g.row.V
