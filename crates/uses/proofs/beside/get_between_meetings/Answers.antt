use Rattle.std.proofs.Common.{◌≡◌, List, [], ◌∷◌, length, ap, inl, inr, subst}
use Rattle.mc_cache.specs.Change.{Change}
use Rattle.mc_cache.specs.Plain.{Begins, IsBetween, IsTrueAnswer, history, seen}
use Rattle.uses.proofs.beside.get_between_meetings.Goals as goal

pub returns-in-Ok : goal.returns-in-Ok
returns-in-Ok c =
    let law = c.history_laws.ensures in
    let reply = c.get-reply.result in
    let h = history 1 c.put.new.self in
    let a : seen 1 c.catch_up.new.self ≡ h = c.catch_up.ensures.plain.0.now in
    let kept : history 1 c.catch_up.new.writer ≡ h = ap (history 1) c.catch_up.ensures.writer in
    let begins : Begins (seen 1 c.get-reply.new.self) h = subst (λ (x : List (Change 1)). Begins (seen 1 c.get-reply.new.self) x) kept c.catch_up-in-Ok.ensures.plain.0.begins in
    let begun : Begins h (seen 1 c.get-reply.new.self) = subst (λ (x : List (Change 1)). Begins x (seen 1 c.get-reply.new.self)) a c.get-reply.ensures.plain.begins in
    let b : seen 1 c.get-reply.new.self ≡ h = law.same h (seen 1 c.get-reply.new.self) begun begins in
    let true : IsTrueAnswer h 7 reply = subst (λ (x : List (Change 1)). IsTrueAnswer x 7 reply) b c.get-reply.ensures.plain.true in
    let between : IsBetween (length h) (length h) reply = subst (λ (p : List (Change 1) × List (Change 1)). IsBetween (length p.0) (length p.1) reply) (λ i. (a i, b i)) c.get-reply.ensures.plain.between in
    elim (law.last h 7 reply true between) [
      | inl spoiled ↦ inl spoiled
      | inr now ↦ inr (length h, _, law.found h 7 (70 ∷ []) _ reply c.in-Ok.ensures.plain.holds now)
    ]
