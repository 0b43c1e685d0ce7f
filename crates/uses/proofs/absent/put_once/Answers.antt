use Rattle.std.proofs.Common.{◌≡◌, ◌∙◌, List, ap, subst, sym}
use Rattle.mc_cache.specs.Change.{Change}
use Rattle.mc_cache.specs.Plain.{Begins, history, seen}
use Rattle.uses.proofs.TakenOut.{both_put}
use Rattle.uses.proofs.absent.put_once.Goals as goal

pub returns : goal.returns
returns g c =
    let one = c.try_both-first.new.one in
    let two = c.try_both-first.new.two in
    let last : history 1 c.catch_up.new.writer ≡ history 1 c.catch_up-2.new.writer = ap (history 1) (sym c.catch_up-2.ensures.writer) in
    let first : history 1 c.in_ok-writer.writer ≡ history 1 c.catch_up.new.writer = ap (history 1) (sym c.catch_up.ensures.writer) in
    both_put c.history_laws.ensures (seen 1 c.args.one.now) (seen 1 c.args.two.now) (seen 1 one) (seen 1 two) (history 1 c.catch_up-2.new.writer) c.try_both-first.result.0 c.try_both-first.result.1 c.try_both-first.ensures.one c.try_both-first.ensures.two
    (subst (λ (h : List (Change 1)). Begins (seen 1 one) h) (first ∙ last) c.catch_up.ensures.plain.0.begins)
    (subst (λ (h : List (Change 1)). Begins (seen 1 two) h) last c.catch_up-2.ensures.plain.0.begins)
