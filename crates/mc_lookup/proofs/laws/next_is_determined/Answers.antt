use Rattle.mc_lookup.proofs.laws.next_is_determined.Goals as goal
use Rattle.mc_lookup.proofs.NextAccess.{next_is_determined}

pub returns : goal.returns
returns g c = next_is_determined g.row.V
