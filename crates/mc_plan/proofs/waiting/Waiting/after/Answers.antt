use Rattle.mc_words.specs.Checks.{shape_of}
use Rattle.mc_plan.proofs.Calls.MidSweep.{sweep_on}
use Rattle.mc_plan.proofs.waiting.Waiting.after.Goals as goal

pub returns-clause-swept : goal.returns-clause-swept
returns-clause-swept g c b call s rs i on next =
    sweep_on g.row.V b c.args.self.now call s rs on c.after.new.self _ (c.after.ensures.swept (shape_of b.checked).items s.hand rs i on.has next)
