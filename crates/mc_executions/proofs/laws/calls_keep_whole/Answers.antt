use Rattle.mc_executions.proofs.TracedCalls.{calls_keep_whole}
use Rattle.mc_executions.proofs.laws.calls_keep_whole.Goals as goal

pub returns : goal.returns
returns g c = calls_keep_whole g.row.V
