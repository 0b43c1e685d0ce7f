use Rattle.std.proofs.Common.{◌∙◌, ap, arith, subst, sym}
use Rattle.mc_words.specs.declared.policy.Policy.{Policy}
use Rattle.mc_plan.specs.WholeCalls.{IsSweepOf}
use Rattle.mc_words.specs.declared.shape.Shape.{Shape}
use Rattle.mc_words.specs.Checks.{policy_of, shape_of}
use Rattle.mc_plan.specs.Clerks.{acts_left}
use Rattle.mc_plan.specs.Inside.Clerks.{IsAtEnd}
use Rattle.mc_plan.specs.Making.{IsQuiet}
use Rattle.mc_plan.specs.declared.answer.Answer.TheVariants as answer
use Rattle.mc_plan.specs.declared.clerk.Stage.{Stage}
use Rattle.mc_plan.proofs.Calls.MidSweep.{hands_may}
use Rattle.mc_plan.proofs.Calls.MidCall.{planned_after}
use Rattle.mc_plan.proofs.clerk.Clerk.go_on.Goals as goal

pub returns-in-Sweeping-clause-on : goal.returns-in-Sweeping-clause-on
returns-in-Sweeping-clause-on g c call s rs ended same =
    let V = g.row.V in
    let old = c.args.self.now in
    let new = c.finish_put-answer.new in
    let now = subst (λ (st : Stage V). IsAtEnd V st old.books old.plan.items old.made call s rs) (sym c.replace-stage.ensures.value ∙ c.in-Sweeping.is) ended.now in
    let planned = c.finish_put-answer.ensures.planned call s rs now.0 now.1 same in
    let shape = ap shape_of (sym c.finish_put-answer.ensures.shape) in
    let sweeps = subst (λ (p : Policy). IsSweepOf V (shape_of old.books.checked) p s rs (answer.Put c.finish_put-answer.result)) (ap policy_of (sym c.finish_put-answer.ensures.shape)) planned.1 in
    record {
      clock = ap policy_of c.finish_put-answer.ensures.shape ∙ now.0.clock;
      begun = subst (λ (sh : Shape). IsQuiet V sh s) shape ended.begun;
      now = planned_after V new.books new.plan.items old.made call s rs (answer.Put c.finish_put-answer.result) (shape_of old.books.checked) shape (hands_may V old.books c.in-Sweeping.waiting call s rs now.0) sweeps planned.0 c.finish_put-answer.ensures.fits now.2;
    }

pub returns-in-Sweeping-clause-left : goal.returns-in-Sweeping-clause-left
unfolding acts_left
returns-in-Sweeping-clause-left g c = omega (arith, c.finish_put-answer.ensures.fits)
