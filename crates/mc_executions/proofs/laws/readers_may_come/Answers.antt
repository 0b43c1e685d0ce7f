use Rattle.mc_executions.proofs.GrownExecutions.{readers_may_come}
use Rattle.mc_executions.proofs.laws.readers_may_come.Goals as goal

pub returns : goal.returns
returns c = readers_may_come
