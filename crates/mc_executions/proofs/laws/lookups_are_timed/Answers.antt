use Rattle.mc_executions.proofs.TimedLookups.{lookups_are_timed}
use Rattle.mc_executions.proofs.laws.lookups_are_timed.Goals as goal

pub returns : goal.returns
returns g c = lookups_are_timed g.row.V
