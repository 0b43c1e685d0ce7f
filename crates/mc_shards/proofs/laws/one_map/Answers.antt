use Rattle.mc_shards.proofs.OneMap as laws
use Rattle.mc_shards.proofs.laws.one_map.Goals as goal

pub returns : goal.returns
returns g c = laws.one_map g.row.V
