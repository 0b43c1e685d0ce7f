use Rattle.std.proofs.Common.{ap, subst, sym}
use Rattle.mc_words.specs.Checks.{shape_of}
use Rattle.mc_words.specs.declared.shape.Shape.{Shape}
use Rattle.mc_shared.specs.declared.layout.Layout.{Layout}
use Rattle.mc_theory.specs.Lists.{state_of}
use Rattle.mc_cache.specs.Showing.{LiesAt}
use Rattle.mc_cache.proofs.Shown.{lies}
use Rattle.mc_cache.proofs.showing.show_beside.Goals as goal

pub returns-clause-lies : goal.returns-clause-lies
returns-clause-lies g c =
    let V = g.row.V in
    let w = (state_of V c.args.cells.now.layout.shape c.args.seat.now.acts).words in
    subst (λ (sh : Shape). LiesAt V sh w c.args.item c.stamped_at.result) (sym (ap (λ (l : Layout). l.shape) c.checked-checked.ensures.layout))
    (lies V (shape_of c.checked-checked.result.now) w c.args.item c.stamped_at.result c.stamped_at.ensures.stands c.stamped_at.ensures.none)
