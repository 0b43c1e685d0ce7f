use Rattle.std.proofs.Common.{[], ◌∷◌, length}
use Rattle.mc_cache.specs.Plain.{history}
use Rattle.uses.proofs.peeked.put_and_peek.Goals as goal

pub returns-in-Ok : goal.returns-in-Ok
returns-in-Ok c =
    let law = c.history_laws.ensures in
    let h = history 1 c.put.new.self in
    (length h, _, law.found h 7 (70 ∷ []) _ c.peek.result c.in-Ok.ensures.plain.holds c.peek.ensures.plain)
