use Rattle.mc_plan.proofs.Calls.DueActs.{sweep_may}
use Rattle.mc_plan.proofs.laws.sweeps_can_read.Goals as goal

pub returns : goal.returns
returns g c = sweep_may g.row.V
