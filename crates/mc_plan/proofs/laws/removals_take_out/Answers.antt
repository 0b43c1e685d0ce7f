use Rattle.mc_plan.proofs.Deeds.Removals.{removes}
use Rattle.mc_plan.proofs.laws.removals_take_out.Goals as goal

pub returns : goal.returns
returns g c = removes g.row.V
