use Rattle.std.proofs.Common.{List, sym, subst, arith}
use Rattle.mc_theory.specs.declared.act.Act.{Act}
use Rattle.mc_plan.specs.Making.{ActsFill}
use Rattle.mc_plan.proofs.Deeds.Fills.{fills}
use Rattle.mc_plan.proofs.Deeds.Values.{plan_is}
use Rattle.mc_plan.proofs.fill.plan_fill.Goals as goal

pub returns-clause-law : goal.returns-clause-law
returns-clause-law g c =
    let V = g.row.V in
    let sh = c.args.checked.now.shape in
    let k = c.args.key in
    let v = c.args.value.now in
    let is = plan_is _ _ _ c.add_fill.ensures.items c.new-acts.ensures in
    subst (λ (acts : List Act). ActsFill V sh k v c.args.at c.args.item c.args.place acts) (sym is)
    (fills V sh k v c.args.at c.args.item c.args.place c.args.checked.now.sound (omega arith) c.told-value c.add_fill.ensures.words (omega arith))
