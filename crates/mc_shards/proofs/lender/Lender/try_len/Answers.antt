use Rattle.std.proofs.Common.{arith, ap}
use Rattle.mc_shared.specs.Records.{Opening}
use Rattle.mc_shards.proofs.CountedShards.{few_keys}
use Rattle.mc_shards.proofs.lender.Lender.try_len.Goals as goal

pub returns-clause-few : goal.returns-clause-few
returns-clause-few g c =
    omega (arith, few_keys g.row.V c.args.pass.now c.count_in_turn-many.new.pass c.count_in_turn-many.ensures.met, c.count_in_turn-many.ensures.plain, ap (λ (o : Opening). o.layout.shape.items) c.requires.of.1)
