use Rattle.mc_search.proofs.TiedItems.{picking_victim}
use Rattle.mc_search.proofs.items.FreeItems.victim.Goals as goal

pub returns : goal.returns
returns c rs on = picking_victim c.args.self.now c.args.pick.now rs c.victim.result c.requires on (c.victim.ensures on.0 rs on.2)
