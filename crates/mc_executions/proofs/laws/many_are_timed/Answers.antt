use Rattle.mc_executions.proofs.TimedLookups.{many_are_timed}
use Rattle.mc_executions.proofs.laws.many_are_timed.Goals as goal

pub returns : goal.returns
returns g c = many_are_timed g.row.V
