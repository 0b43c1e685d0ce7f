use Rattle.mc_executions.proofs.ExecutionRuns.{records_pass}
use Rattle.mc_executions.proofs.laws.records_pass.Goals as goal

pub returns : goal.returns
returns c = records_pass
