use Rattle.mc_executions.proofs.StepMoves.{record_is_one}
use Rattle.mc_executions.proofs.laws.record_is_one.Goals as goal

pub returns : goal.returns
returns c = record_is_one
