use Rattle.std.proofs.Common.{◌∙◌, ap, subst}
use Rattle.mc_words.specs.declared.shape.Shape.{Shape}
use Rattle.mc_cache.specs.Failing.{TurnFails, versions_seen}
use Rattle.mc_cache.specs.Plain.{TurnMeans, seen}
use Rattle.mc_cache.specs.Turns.{HasTriedTo}
use Rattle.mc_shards.specs.Sharded.{shard_in}
use Rattle.mc_shards.proofs.Dealt.{changes_here, here, kept_here, seens_here}
use Rattle.mc_shards.proofs.pass.Pass.try_call.Goals as goal

pub returns-clause-of : goal.returns-clause-of
returns-clause-of g c =
    kept_here c.args.shards.now c.args.self.now c.self.inside.readers.items c.shard_of-n.result c.index_mut-reader.result.now c.try_call.new.pass c.self.view_is c.requires.of
    (here c.args.shards.now c.args.self.now c.self.inside.readers.items c.shard_of-n.result c.index_mut-reader.result.now c.self.view_is c.requires.of c.shard_of-n.ensures.range c.index_mut-reader.ensures.value) c.try_call.ensures.of

pub returns-clause-turn : goal.returns-clause-turn
returns-clause-turn g c =
    changes_here c.shard_of-n.result _ c.args.self.now c.self.inside.readers.items c.index_mut-reader.result.now c.try_call.new.pass (λ r r'. HasTriedTo g.row.V c.args.shards.now.shape ((g.C.TurnCall.contract c.args.call).called c.args.shards.now.shape) r r' c.try_call.result) c.self.view_is (c.shard_of-n.ensures.shard ∙ ap (shard_in c.args.shards.now) c.key.ensures.value)
    (here c.args.shards.now c.args.self.now c.self.inside.readers.items c.shard_of-n.result c.index_mut-reader.result.now c.self.view_is c.requires.of c.shard_of-n.ensures.range c.index_mut-reader.ensures.value)
    (subst (λ (sh : Shape). HasTriedTo g.row.V sh ((g.C.TurnCall.contract c.args.call).called sh) c.index_mut-reader.result.now c.try_call.new.pass c.try_call.result) c.cache-cache.ensures.shape c.try_call.ensures.turn)

pub returns-clause-plain : goal.returns-clause-plain
returns-clause-plain g c =
    seens_here g.row.V c.shard_of-n.result _ c.args.self.now c.self.inside.readers.items c.index_mut-reader.result.now c.try_call.new.pass (λ h h'. TurnMeans ((g.C.TurnCall.contract c.args.call).means) h h' c.try_call.result) c.self.view_is (c.shard_of-n.ensures.shard ∙ ap (shard_in c.args.shards.now) c.key.ensures.value)
    (here c.args.shards.now c.args.self.now c.self.inside.readers.items c.shard_of-n.result c.index_mut-reader.result.now c.self.view_is c.requires.of c.shard_of-n.ensures.range c.index_mut-reader.ensures.value) c.try_call.ensures.plain

pub returns-clause-fails : goal.returns-clause-fails
returns-clause-fails g c =
    changes_here c.shard_of-n.result _ c.args.self.now c.self.inside.readers.items c.index_mut-reader.result.now c.try_call.new.pass (λ r r'. TurnFails ((g.C.TurnCall.contract c.args.call).fails c.args.shards.now.shape (seen g.row.V r') (versions_seen g.row.V r')) c.try_call.result) c.self.view_is (c.shard_of-n.ensures.shard ∙ ap (shard_in c.args.shards.now) c.key.ensures.value)
    (here c.args.shards.now c.args.self.now c.self.inside.readers.items c.shard_of-n.result c.index_mut-reader.result.now c.self.view_is c.requires.of c.shard_of-n.ensures.range c.index_mut-reader.ensures.value)
    (subst (λ (sh : Shape). TurnFails ((g.C.TurnCall.contract c.args.call).fails sh (seen g.row.V c.try_call.new.pass) (versions_seen g.row.V c.try_call.new.pass)) c.try_call.result) c.cache-cache.ensures.shape c.try_call.ensures.fails)
