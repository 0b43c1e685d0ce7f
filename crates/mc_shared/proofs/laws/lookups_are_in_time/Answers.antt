use Rattle.mc_shared.proofs.OrderedLookups.{lookups_are_in_time}
use Rattle.mc_shared.proofs.laws.lookups_are_in_time.Goals as goal

pub returns : goal.returns
returns g c = lookups_are_in_time g.row.V
