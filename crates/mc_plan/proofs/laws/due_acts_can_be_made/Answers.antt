use Rattle.mc_plan.proofs.Calls.DueActs.{due_may}
use Rattle.mc_plan.proofs.laws.due_acts_can_be_made.Goals as goal

pub returns : goal.returns
returns g c = due_may g.row.V
