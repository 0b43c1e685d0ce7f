use Rattle.std.proofs.Common.{subst}
use Rattle.mc_words.specs.declared.shape.Shape.{Shape}
use Rattle.mc_shards.proofs.Dealt.{changes_here, here, kept_here, seens_here}
use Rattle.mc_cache.specs.Turns.{HasLookedOrMet}
use Rattle.mc_cache.specs.Plain.{HasAnswered}
use Rattle.mc_shards.proofs.pass.Pass.get_or_desk.Goals as goal

pub returns-clause-of : goal.returns-clause-of
returns-clause-of g c =
    kept_here c.args.shards.now c.args.self.now c.self.inside.readers.items c.shard_of-n.result c.index_mut-reader.result.now c.get_or_lend.new.pass c.self.view_is c.requires.of
    (here c.args.shards.now c.args.self.now c.self.inside.readers.items c.shard_of-n.result c.index_mut-reader.result.now c.self.view_is c.requires.of c.shard_of-n.ensures.range c.index_mut-reader.ensures.value) c.get_or_lend.ensures.of

pub returns-clause-looked : goal.returns-clause-looked
returns-clause-looked g c =
    changes_here c.shard_of-n.result _ c.args.self.now c.self.inside.readers.items c.index_mut-reader.result.now c.get_or_lend.new.pass (λ r r'. HasLookedOrMet g.row.V c.args.shards.now.shape c.args.key r r' c.get_or_lend.result) c.self.view_is c.shard_of-n.ensures.shard
    (here c.args.shards.now c.args.self.now c.self.inside.readers.items c.shard_of-n.result c.index_mut-reader.result.now c.self.view_is c.requires.of c.shard_of-n.ensures.range c.index_mut-reader.ensures.value)
    (subst (λ (sh : Shape). HasLookedOrMet g.row.V sh c.args.key c.index_mut-reader.result.now c.get_or_lend.new.pass c.get_or_lend.result) c.cache-cache.ensures.shape c.get_or_lend.ensures.looked)

pub returns-clause-plain : goal.returns-clause-plain
returns-clause-plain g c =
    seens_here g.row.V c.shard_of-n.result _ c.args.self.now c.self.inside.readers.items c.index_mut-reader.result.now c.get_or_lend.new.pass (λ h h'. HasAnswered g.row.V h h' c.args.key c.get_or_lend.result) c.self.view_is c.shard_of-n.ensures.shard
    (here c.args.shards.now c.args.self.now c.self.inside.readers.items c.shard_of-n.result c.index_mut-reader.result.now c.self.view_is c.requires.of c.shard_of-n.ensures.range c.index_mut-reader.ensures.value) c.get_or_lend.ensures.plain
