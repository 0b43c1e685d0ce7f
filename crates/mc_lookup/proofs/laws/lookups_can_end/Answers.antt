use Rattle.mc_lookup.proofs.laws.lookups_can_end.Goals as goal
use Rattle.mc_lookup.proofs.NextAccess.{can_end}

pub returns : goal.returns
returns g c = can_end g.row.V
