use Rattle.std.proofs.Common.{[], ◌∷◌}
use Rattle.mc_cache.specs.Plain.{history}
use Rattle.uses.proofs.Kept.{put_loses_none}
use Rattle.uses.proofs.owned.put_object.Goals as goal

pub returns-in-Ok : goal.returns-in-Ok
returns-in-Ok c =
    let plain = c.in-Ok.ensures.plain in
    put_loses_none c.history_laws.ensures (history 1 c.args.writer.now) (history 1 c.swap.new.self) c.args.key (c.args.object ∷ []) c.in-Ok.swapped.put c.in-Ok.swapped.old plain.0 plain.1
