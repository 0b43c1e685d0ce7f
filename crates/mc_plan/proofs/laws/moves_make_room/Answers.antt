use Rattle.mc_plan.proofs.Puts.PathMoves.{room_made}
use Rattle.mc_plan.proofs.laws.moves_make_room.Goals as goal

pub returns : goal.returns
returns g c = room_made g.row.V
