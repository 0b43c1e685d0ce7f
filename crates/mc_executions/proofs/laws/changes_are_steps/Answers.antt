use Rattle.mc_executions.proofs.TimedChanges.{changes_are_steps}
use Rattle.mc_executions.proofs.laws.changes_are_steps.Goals as goal

pub returns : goal.returns
returns g c = changes_are_steps g.row.V
