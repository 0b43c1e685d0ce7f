use Rattle.mc_shards.proofs.Dealt.{changes_here, here, kept_here, seens_here}
use Rattle.mc_cache.specs.Turns.{HasTriedToPeek}
use Rattle.mc_cache.specs.Plain.{PeekMeans}
use Rattle.mc_shards.proofs.pass.Pass.try_peek.Goals as goal

pub returns-clause-of : goal.returns-clause-of
returns-clause-of g c =
    kept_here c.args.shards.now c.args.self.now c.self.inside.readers.items c.shard_of-n.result c.index_mut-reader.result.now c.try_peek.new.pass c.self.view_is c.requires.of
    (here c.args.shards.now c.args.self.now c.self.inside.readers.items c.shard_of-n.result c.index_mut-reader.result.now c.self.view_is c.requires.of c.shard_of-n.ensures.range c.index_mut-reader.ensures.value) c.try_peek.ensures.of

pub returns-clause-turn : goal.returns-clause-turn
returns-clause-turn g c =
    changes_here c.shard_of-n.result _ c.args.self.now c.self.inside.readers.items c.index_mut-reader.result.now c.try_peek.new.pass (λ r r'. HasTriedToPeek g.row.V r r' c.try_peek.result) c.self.view_is c.shard_of-n.ensures.shard
    (here c.args.shards.now c.args.self.now c.self.inside.readers.items c.shard_of-n.result c.index_mut-reader.result.now c.self.view_is c.requires.of c.shard_of-n.ensures.range c.index_mut-reader.ensures.value) c.try_peek.ensures.turn

pub returns-clause-plain : goal.returns-clause-plain
returns-clause-plain g c =
    seens_here g.row.V c.shard_of-n.result _ c.args.self.now c.self.inside.readers.items c.index_mut-reader.result.now c.try_peek.new.pass (λ h h'. PeekMeans g.row.V h h' c.args.key c.try_peek.result) c.self.view_is c.shard_of-n.ensures.shard
    (here c.args.shards.now c.args.self.now c.self.inside.readers.items c.shard_of-n.result c.index_mut-reader.result.now c.self.view_is c.requires.of c.shard_of-n.ensures.range c.index_mut-reader.ensures.value) c.try_peek.ensures.plain
