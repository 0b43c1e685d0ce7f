use Rattle.std.proofs.Common.{ℕ, List, None, sym, subst, ap}
use Rattle.mc_words.specs.Checks.{shape_of}
use Rattle.mc_words.specs.Standing.{Agrees, Stands}
use Rattle.mc_search.proofs.EntryLists.{if_none_any, stood_elsewhere, unstood}
use Rattle.mc_cache.proofs.stamped.stamped_at.Goals as goal

pub returns-in_err-found-clause-none : goal.returns-in_err-found-clause-none
returns-in_err-found-clause-none g c =
    let V = g.row.V in
    let sh = shape_of c.args.checked.now in
    let w = g.P.Peek.words c.args.peek.now in
    let h = c.requires.agrees.0 in
    let agrees = c.requires.agrees.1 in
    let none = c.in_err-found.ensures.none h (subst (λ (ws : List ℕ). Agrees V sh ws None h) (sym (ap g.P.Peek.words c.key_at-key.ensures.kept)) agrees) in
    if_none_any c.from_residual.result ((k q : ℕ) → Stands V sh w k q c.args.item → ⊥) (unstood V sh w h c.key_at-key.result c.args.item agrees c.key_at-key.ensures.value none)

pub returns-else-found-item-clause-none : goal.returns-else-found-item-clause-none
returns-else-found-item-clause-none g c =
    let V = g.row.V in
    let sh = shape_of c.args.checked.now in
    let w = g.P.Peek.words c.args.peek.now in
    let there = c.in_ok-found.ensures.item in
    stood_elsewhere V sh w c.requires.agrees.0 c.key_at-key.result c.args.item there.0 c.in_ok-found.found.item c.requires.agrees.1 c.key_at-key.ensures.value
    (subst (λ (ws : List ℕ). Stands V sh ws c.key_at-key.result there.0 c.in_ok-found.found.item) (ap g.P.Peek.words c.key_at-key.ensures.kept) there.1) c.if-found-item.false
