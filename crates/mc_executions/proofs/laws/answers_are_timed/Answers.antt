use Rattle.mc_executions.proofs.RunningDoor.{answers_are_timed}
use Rattle.mc_executions.proofs.laws.answers_are_timed.Goals as goal

pub returns : goal.returns
returns c = answers_are_timed
