use Rattle.mc_executions.proofs.ActingWriters.{writers_may_act}
use Rattle.mc_executions.proofs.laws.writers_may_act.Goals as goal

pub returns : goal.returns
returns c = writers_may_act
