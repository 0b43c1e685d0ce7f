use Rattle.std.proofs.Common.{List, sym, subst, arith}
use Rattle.mc_theory.specs.declared.act.Act.{Act}
use Rattle.mc_plan.specs.Making.{ActsEvict}
use Rattle.mc_plan.proofs.Deeds.Removals.{evicts}
use Rattle.mc_plan.proofs.Deeds.Values.{plan_is}
use Rattle.mc_plan.proofs.take_out.plan_evict.Goals as goal

pub returns-clause-law : goal.returns-clause-law
returns-clause-law c V sh shape =
    let is = plan_is _ _ _ c.add_evict.ensures.items c.new-acts.ensures in
    subst (λ (acts : List Act). ActsEvict V sh c.args.key c.args.place acts) (sym is) (evicts V sh c.args.key c.args.place shape (omega arith))
