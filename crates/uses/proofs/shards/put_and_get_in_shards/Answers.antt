use Rattle.mc_cache.specs.Plain.{moment_of}
use Rattle.mc_shards.specs.OneMap.{OneMap}
use Rattle.mc_shards.specs.Plain.{HasAnswered, seens}
use Rattle.uses.proofs.OneShard.{as_long, here, holds}
use Rattle.uses.proofs.shards.put_and_get_in_shards.Goals as goal

pub returns-in-Ok-clause-told : goal.returns-in-Ok-clause-told
returns-in-Ok-clause-told c =
    let s = c.args.shards.now in
    let k = c.args.key in
    let reply = c.get.result in
    let law : OneMap 1 = c.one_map.ensures in
    let put = seens 1 c.try_put.new.self in
    let now = seens 1 c.get.new.self in
    let stored = holds s (seens 1 c.args.pass.now) put k c.in-Ok.field-0 law (as_long s c.args.pass.now c.requires.of) c.in-Ok.ensures.plain in
    let looked = here s put now k (λ h h'. HasAnswered 1 h h' k reply) (as_long s c.try_put.new.self c.try_put.ensures.of) c.get.ensures.plain in
    let told = law.answers s.shape.mix put now k reply looked in
    record { put = put; stamp = moment_of c.in-Ok.field-0; held = stored; then = told.0; later = told.1; seen = told.2; tells = told.3 }
