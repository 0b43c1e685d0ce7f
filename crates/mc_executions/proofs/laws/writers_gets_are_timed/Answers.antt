use Rattle.mc_executions.proofs.TimedLookups.{writers_gets_are_timed}
use Rattle.mc_executions.proofs.laws.writers_gets_are_timed.Goals as goal

pub returns : goal.returns
returns g c = writers_gets_are_timed g.row.V
