use Rattle.std.proofs.Common.{subst}
use Rattle.mc_words.specs.declared.shape.Shape.{Shape}
use Rattle.mc_shards.proofs.Dealt.{changes_here, here, kept_here, seens_here}
use Rattle.mc_reader.specs.Records.{HasLooked}
use Rattle.mc_cache.specs.Plain.{HasAnswered}
use Rattle.mc_shards.proofs.pass.Pass.get.Goals as goal

pub returns-clause-of : goal.returns-clause-of
returns-clause-of g c =
    kept_here c.args.shards.now c.args.self.now c.self.inside.readers.items c.shard_of-n.result c.index_mut-reader.result.now c.get.new.self c.self.view_is c.requires.of
    (here c.args.shards.now c.args.self.now c.self.inside.readers.items c.shard_of-n.result c.index_mut-reader.result.now c.self.view_is c.requires.of c.shard_of-n.ensures.range c.index_mut-reader.ensures.value) c.get.ensures.looked.of

pub returns-clause-looked : goal.returns-clause-looked
returns-clause-looked g c =
    changes_here c.shard_of-n.result _ c.args.self.now c.self.inside.readers.items c.index_mut-reader.result.now c.get.new.self (λ r r'. HasLooked g.row.V c.args.shards.now.shape c.args.key r r' c.get.result) c.self.view_is c.shard_of-n.ensures.shard
    (here c.args.shards.now c.args.self.now c.self.inside.readers.items c.shard_of-n.result c.index_mut-reader.result.now c.self.view_is c.requires.of c.shard_of-n.ensures.range c.index_mut-reader.ensures.value)
    (subst (λ (sh : Shape). HasLooked g.row.V sh c.args.key c.index_mut-reader.result.now c.get.new.self c.get.result) c.cache-cache.ensures.shape c.get.ensures.looked)

pub returns-clause-plain : goal.returns-clause-plain
returns-clause-plain g c =
    seens_here g.row.V c.shard_of-n.result _ c.args.self.now c.self.inside.readers.items c.index_mut-reader.result.now c.get.new.self (λ h h'. HasAnswered g.row.V h h' c.args.key c.get.result) c.self.view_is c.shard_of-n.ensures.shard
    (here c.args.shards.now c.args.self.now c.self.inside.readers.items c.shard_of-n.result c.index_mut-reader.result.now c.self.view_is c.requires.of c.shard_of-n.ensures.range c.index_mut-reader.ensures.value) c.get.ensures.plain
