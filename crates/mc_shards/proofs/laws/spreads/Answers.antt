use Rattle.mc_shards.proofs.Spread as laws
use Rattle.mc_shards.proofs.laws.spreads.Goals as goal

pub returns : goal.returns
returns c = laws.spreads
