use Rattle.mc_plan.proofs.Deeds.Removals.{evicts}
use Rattle.mc_plan.proofs.laws.evictions_take_out.Goals as goal

pub returns : goal.returns
returns g c = evicts g.row.V
