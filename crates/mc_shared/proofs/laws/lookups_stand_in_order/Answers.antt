use Rattle.mc_shared.proofs.OrderedLookups.{lookups_stand_in_order}
use Rattle.mc_shared.proofs.laws.lookups_stand_in_order.Goals as goal

pub returns : goal.returns
returns g c = lookups_stand_in_order g.row.V
