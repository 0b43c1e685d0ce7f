use Rattle.mc_plan.proofs.Deeds.Moves.{moves}
use Rattle.mc_plan.proofs.laws.moves_keep_the_map.Goals as goal

pub returns : goal.returns
returns g c = moves g.row.V
