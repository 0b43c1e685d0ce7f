use Rattle.std.proofs.Common.{List, Result, sym, subst}
use Rattle.mc_theory.specs.declared.act.Act.{Act}
use Rattle.mc_plan.specs.WholeCalls.{RemoveCall}
use Rattle.mc_plan.specs.Books.{IsPlanned}
use Rattle.mc_plan.specs.Decisions.{removal_acts}
use Rattle.mc_plan.specs.declared.answer.Answer.TheVariants as answer
use Rattle.mc_plan.specs.declared.answer.Remove.{Remove}
use Rattle.mc_plan.specs.declared.answer.Spent.{Spent}
use Rattle.mc_plan.proofs.listing.start_removal.Goals as goal

pub returns-clause-planned : goal.returns-clause-planned
returns-clause-planned g c s old same =
    let V = g.row.V in
    let b = c.decide_removal-removal.new.self in
    let list = removal_acts c.args.key c.decide_removal-removal.result in
    let decided = c.decide_removal-removal.ensures.decided s old same in
    subst (λ (xs : List Act). IsPlanned V b xs (RemoveCall c.args.key) s s (answer.Remove c.told.result)) (sym c.add_removal.ensures.items)
    (subst (λ (told : Result Remove Spent). IsPlanned V b list (RemoveCall c.args.key) s s (answer.Remove told)) (sym c.told.ensures) decided)
