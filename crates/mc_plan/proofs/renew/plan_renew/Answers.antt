use Rattle.std.proofs.Common.{List, sym, subst, arith}
use Rattle.mc_theory.specs.declared.act.Act.{Act}
use Rattle.mc_plan.specs.Making.{ActsRenew}
use Rattle.mc_plan.proofs.Deeds.Renewals.{renews}
use Rattle.mc_plan.proofs.Deeds.Values.{plan_is}
use Rattle.mc_plan.proofs.renew.plan_renew.Goals as goal

pub returns-clause-law : goal.returns-clause-law
returns-clause-law g c sh shape =
    let V = g.row.V in
    let k = c.args.key in
    let v = c.args.value.now in
    let is = plan_is _ _ _ c.add_renew.ensures.items c.new-acts.ensures in
    subst (λ (acts : List Act). ActsRenew V sh k v c.args.at c.args.item acts) (sym is)
    (renews V sh k v c.args.at c.args.item shape (omega arith) c.told-value c.add_renew.ensures.words (omega arith))
