use Rattle.mc_plan.proofs.Puts.Replacements.{evictions_room}
use Rattle.mc_plan.proofs.laws.evictions_make_room.Goals as goal

pub returns : goal.returns
returns g c = evictions_room g.row.V
