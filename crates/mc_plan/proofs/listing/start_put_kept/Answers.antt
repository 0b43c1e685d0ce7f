use Rattle.std.proofs.Common.{List, Err, sym, subst}
use Rattle.mc_theory.specs.declared.act.Act.{Act}
use Rattle.mc_plan.specs.WholeCalls.{KeptCall}
use Rattle.mc_plan.specs.Books.{IsPlanned}
use Rattle.mc_plan.specs.declared.answer.Answer.TheVariants as answer
use Rattle.mc_plan.specs.declared.answer.Why.TheVariants as left
use Rattle.mc_plan.proofs.Calls.KeptCalls.{refused_item}
use Rattle.mc_plan.proofs.listing.start_put_kept.Goals as goal

pub returns-in-Waits-clause-planned : goal.returns-in-Waits-clause-planned
returns-in-Waits-clause-planned g c s old same =
    let b = c.start_put.new.books in
    let waits = c.in-Waits.ensures.started s old same in
    subst (λ (xs : List Act). IsPlanned g.row.V b xs (KeptCall c.args.key c.args.value.now) s s (answer.Kept (Err left.NoItem))) (sym waits.0) (refused_item g.row.V b c.args.key c.args.value.now s c.in-Waits.field-0 waits.1)
