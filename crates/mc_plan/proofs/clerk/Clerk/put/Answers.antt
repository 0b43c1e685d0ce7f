use Rattle.std.proofs.Common.{◌≡◌, ◌+◌, ◌∙◌, ap, arith, refl, subst, sym}
use Rattle.mc_words.specs.declared.policy.Policy.TheVariants.{Clock}
use Rattle.mc_words.specs.declared.shape.Shape.{Shape}
use Rattle.mc_words.specs.Checks.{policy_of, shape_of}
use Rattle.mc_plan.specs.WholeCalls.{PutCall}
use Rattle.mc_plan.specs.Clerks.{acts_left, left_in}
use Rattle.mc_plan.specs.Inside.Clerks.{IsStarted}
use Rattle.mc_plan.specs.Making.{IsQuiet}
use Rattle.mc_plan.specs.declared.answer.Answer.TheVariants as answer
use Rattle.mc_plan.specs.declared.clerk.Clerk.{Clerk}
use Rattle.mc_plan.specs.declared.clerk.Stage.{Stage}
use Rattle.mc_plan.specs.declared.waiting.Start.{Start}
use Rattle.mc_plan.proofs.Calls.MidSweep.{begins_sweep}
use Rattle.mc_plan.proofs.Calls.MidCall.{begins}
use Rattle.mc_plan.proofs.clerk.Clerk.put.Goals as goal
use Rattle.mc_plan.proofs.clerk.Clerk.put.Goals.{in-Planned, in-Waits}

pub returns-clause-on : goal.returns-clause-on
returns-clause-on g c s knows same =
    let V = g.row.V in
    let b = c.start_put.new.books in
    let plan = c.start_put.new.plan in
    let k = c.args.key in
    let v = c.args.value in
    let clerk : Clerk V = record { books = b; stage = c.match-start_put.self; plan = plan; made = 0 } in
    let started = c.start_put.ensures.started s knows.books same in
    let quiet = subst (λ (sh : Shape). IsQuiet V sh s) (ap shape_of (sym c.start_put.ensures.shape)) knows.books.quiet in
    let clock : policy_of b.checked ≡ Clock = ap policy_of c.start_put.ensures.shape ∙ knows.clock in
    elim c.match-start_put.branch [
      | in-Planned w ↦
          let planned = subst (λ (r : Start). IsStarted V b plan.items k v s r) w.in-Planned.is started in
          begins V clerk (PutCall k v) s (answer.Put w.in-Planned.answer) w.self-is refl c.start_put.ensures.fits quiet clock planned.0 planned.1
      | in-Waits w ↦
          let waits = subst (λ (r : Start). IsStarted V b plan.items k v s r) w.in-Waits.is started in
          begins_sweep V clerk (PutCall k v) s w.new.result w.self-is refl waits.0 (w.new.ensures.sweeping s waits.1)
    ]

pub returns-clause-left : goal.returns-clause-left
unfolding acts_left
returns-clause-left g c =
    let V = g.row.V in
    let b = c.start_put.new.books in
    let plan = c.start_put.new.plan in
    let r = c.requires in
    let started = c.start_put.ensures.started r.0 r.1.books r.2 in
    elim c.match-start_put.branch [
      | in-Planned w ↦
          let few = c.start_put.ensures.fits in
          let is : left_in c.match-start_put.self plan.items 0 ≡ _ = ap (λ (st : Stage V). left_in st plan.items 0) w.self-is in
          omega (arith, few, is)
      | in-Waits w ↦
          let is : left_in c.match-start_put.self plan.items 0 ≡ w.new.result.sweep.left + 64 = ap (λ (st : Stage V). left_in st plan.items 0) w.self-is in
          omega (arith, is, w.new.ensures.left)
    ]
