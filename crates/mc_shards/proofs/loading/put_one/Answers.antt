use Rattle.std.proofs.Common.{◌<◌, ◌≡◌, ◌∙◌, ap, arith, length}
use Rattle.mc_words.specs.Keys.{shard_of}
use Rattle.mc_shards.proofs.LoadedShards.{put_here, still_writers}
use Rattle.mc_shards.proofs.loading.put_one.Goals as goal

pub returns-clause-of : goal.returns-clause-of
returns-clause-of g c =
    still_writers c.args.caches.now.items c.args.writers.now.items c.shard-n.result c.index_mut-writer.result.now c.put_kept.new.self c.requires.of c.index_mut-writer.ensures.value c.put_kept.ensures.called.of

pub returns-clause-called : goal.returns-clause-called
returns-clause-called g c =
    let within : c.shard-n.result < length c.args.caches.now.items = omega (arith, c.shard-n.ensures.range, c.len.ensures) in
    let many : c.len.result ≡ length c.args.caches.now.items = omega (arith, c.len.ensures) in
    put_here g.row.V c.args.shape c.args.caches.now.items c.args.writers.now.items c.shard-n.result _ c.index_mut-writer.result.now c.put_kept.new.self c.index.result.now c.args.key c.args.value c.put_kept.result c.requires.of within
    (c.shard-n.ensures.shard ∙ ap (λ m. shard_of c.args.shape.mix m c.args.key) many) c.index_mut-writer.ensures.value c.index.ensures c.requires.shapes c.put_kept.ensures.called
