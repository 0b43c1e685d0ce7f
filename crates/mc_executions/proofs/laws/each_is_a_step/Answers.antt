use Rattle.mc_executions.proofs.RunningSteps.{each_is_a_step}
use Rattle.mc_executions.proofs.laws.each_is_a_step.Goals as goal

pub returns : goal.returns
returns c = each_is_a_step
