use Rattle.mc_executions.proofs.ClearVictims.{victims_were_clear}
use Rattle.mc_executions.proofs.laws.victims_were_clear.Goals as goal

pub returns : goal.returns
returns g c = victims_were_clear g.row.V
