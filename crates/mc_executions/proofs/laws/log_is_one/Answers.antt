use Rattle.mc_executions.proofs.ExecutionSteps.{log_is_one}
use Rattle.mc_executions.proofs.laws.log_is_one.Goals as goal

pub returns : goal.returns
returns c = log_is_one
