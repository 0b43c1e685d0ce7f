use Rattle.std.proofs.Common.{◌≡◌, refl, subst}
use Rattle.mc_search.specs.Picks.{HasPicked}
use Rattle.mc_search.specs.declared.choice.Choice.{Choice}
use Rattle.mc_search.proofs.items.FreeItems.after.Goals as goal

pub returns-clause-picking : goal.returns-clause-picking
returns-clause-picking c rs on none =
    let one = on.1 in
    let two = c.in-Some.is in
    let same : on.0 ≡ c.in-Some.choice = cc in
    (c.after.new.choice, refl, c.after.ensures.picked rs (subst (λ (x : Choice). HasPicked x c.args.pick.now rs) same on.2) none)
