use Rattle.mc_plan.proofs.Calls.DueActs.{plan_ends}
use Rattle.mc_plan.proofs.laws.plans_end_calls.Goals as goal

pub returns : goal.returns
returns g c = plan_ends g.row.V
