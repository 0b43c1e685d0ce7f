use Rattle.mc_executions.proofs.ExecutionTraces.{executions_are_traces}
use Rattle.mc_executions.proofs.laws.executions_are_traces.Goals as goal

pub returns : goal.returns
returns g c = executions_are_traces g.row.V
