use Rattle.mc_plan.proofs.Puts.MadeRoom.{puts_room}
use Rattle.mc_plan.proofs.laws.puts_make_room.Goals as goal

pub returns : goal.returns
returns g c = puts_room g.row.V
