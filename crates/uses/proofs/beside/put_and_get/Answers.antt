use Rattle.std.proofs.Common.{◌≡◌, List, [], ◌∷◌, length, ap, subst}
use Rattle.mc_cache.specs.Change.{Change}
use Rattle.mc_cache.specs.Plain.{TellsNow, history}
use Rattle.uses.proofs.beside.put_and_get.Goals as goal

pub returns-in-Ok : goal.returns-in-Ok
returns-in-Ok c =
    let law = c.history_laws.ensures in
    let reply = c.get_beside.result in
    let h = history 1 c.put.new.self in
    let kept : history 1 c.catch_up.new.writer ≡ h = ap (history 1) c.catch_up.ensures.writer in
    let told : TellsNow h 7 reply = subst (λ (x : List (Change 1)). TellsNow x 7 reply) kept c.get_beside.ensures.plain.1 in
    (length h, _, law.found h 7 (70 ∷ []) _ reply c.in-Ok.ensures.plain.holds told)
