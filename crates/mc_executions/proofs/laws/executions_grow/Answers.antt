use Rattle.mc_executions.proofs.GrownExecutions.{executions_grow}
use Rattle.mc_executions.proofs.laws.executions_grow.Goals as goal

pub returns : goal.returns
returns c = executions_grow
