use Rattle.mc_plan.proofs.Calls.DueActs.{planned_due}
use Rattle.mc_plan.proofs.laws.plans_are_due.Goals as goal

pub returns : goal.returns
returns g c = planned_due g.row.V
