use Rattle.std.proofs.Common.{◌∙◌}
use Rattle.mc_door.proofs.NewShards.{have_seen_loads}
use Rattle.mc_door.proofs.new_passes.NewPasses.open_with.Goals as goal

pub returns-clause-loaded : goal.returns-clause-loaded
returns-clause-loaded g c =
    let opened = c.in_ok-opened.ensures in let given = c.in_ok-rest.ensures in
    have_seen_loads g.row.V c.args.shape c.in_ok-opened.opened.shards c.in_ok-rest.rest.shared.value.shards c.as_slice.result.now _ c.in_ok-opened.opened.left.items
    c.in_ok-opened.opened.passes.items c.in_ok-rest.rest.passes.items opened.shards.0 given.0 (c.as_slice.ensures.value ∙ c.in-Ok.ensures) given.1 opened.loaded opened.plain
