use Rattle.mc_search.proofs.ItemBits.{from_same, from_set}
use Rattle.mc_search.proofs.item_set.bits_from.Goals as goal

pub returns-clause-same : goal.returns-clause-same
returns-clause-same c t from below = from_same c.args.word c.args.first t c.requires from below

pub returns-clause-set : goal.returns-clause-set
returns-clause-set c t is = from_set c.args.word _ t is
