use Rattle.std.proofs.Common.{◌∙◌, sym}
use Rattle.std.proofs.lemmas.Bool.{eqb-true}
use Rattle.mc_shards.proofs.Dealt.{only_shard}
use Rattle.mc_shards.proofs.shards.Shards.is_single.Goals as goal

pub returns-clause-every : goal.returns-clause-every
returns-clause-every g c = λ one key. only_shard c.args.self.now.shape.mix key _ (sym c.count.ensures.count ∙ eqb-true c.count.result 1 one)
