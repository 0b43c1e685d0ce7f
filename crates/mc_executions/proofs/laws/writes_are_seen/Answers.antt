use Rattle.mc_executions.proofs.TimeOrder.{writes_are_seen}
use Rattle.mc_executions.proofs.laws.writes_are_seen.Goals as goal

pub returns : goal.returns
returns g c = writes_are_seen g.row.V
