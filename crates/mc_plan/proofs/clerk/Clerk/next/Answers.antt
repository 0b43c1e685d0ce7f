use Rattle.std.proofs.Common.{◌≡◌, ◌∙◌, Some, ap, sym}
use Rattle.std.specs.Prelude.{slice_get}
use Rattle.mc_plan.specs.declared.clerk.Stage.{Stage}
use Rattle.mc_theory.specs.declared.act.Act.TheVariants.{Hand}
use Rattle.mc_plan.specs.Clerks.{hand_of, next_act, next_in}
use Rattle.mc_plan.proofs.Calls.MidSweep.{sweep_may}
use Rattle.mc_plan.proofs.Calls.MidCall.{at_stage, copied_is, plan_may}
use Rattle.mc_plan.proofs.clerk.Clerk.next.Goals as goal
use Rattle.mc_plan.proofs.clerk.Clerk.next.Goals.{After-copied}
use Rattle.mc_plan.proofs.clerk.Clerk.next.Given.{Over}

-- what is copied is the plan's act at this place
copied : (g : Over) (c : After-copied g) → c.copied.result ≡ slice_get c.args.self.now.plan.items c.args.self.now.made
copied g c =
    let look = c.get.ensures.lookup in
    rw (← c.deref.ensures.0) (c.copied.ensures ∙ copied_is c.deref.result.now c.args.self.now.made c.get.result look.1 look.3)

pub returns-in-Idle-clause-value : goal.returns-in-Idle-clause-value
unfolding next_act
returns-in-Idle-clause-value g c = ap (λ (st : Stage g.row.V). next_in st c.args.self.now.plan.items c.args.self.now.made) (sym c.in-Idle.is)

pub returns-in-Planned-clause-value : goal.returns-in-Planned-clause-value
unfolding next_act
returns-in-Planned-clause-value g c =
    copied g (goal.at.returns-in-Planned-clause-value g c).After-copied ∙ ap (λ (st : Stage g.row.V). next_in st c.args.self.now.plan.items c.args.self.now.made) (sym c.in-Planned.is)

pub returns-in-Planned-clause-allowed : goal.returns-in-Planned-clause-allowed
returns-in-Planned-clause-allowed g c call s acts on =
    let clerk = c.args.self.now in
    let makes = at_stage g.row.V clerk call s acts c.in-Planned.field-0 on c.in-Planned.is in
    plan_may g.row.V clerk.books clerk.plan.items clerk.made call s acts c.in-Planned.field-0 makes c.copied.result (copied g (goal.at.returns-in-Planned-clause-allowed g c).After-copied)

pub returns-in_err-next-in-Sweeping-clause-value : goal.returns-in_err-next-in-Sweeping-clause-value
unfolding next_act
returns-in_err-next-in-Sweeping-clause-value g c =
    c.from_residual.ensures ∙ ap hand_of (sym c.in_err-next-in-Sweeping.was ∙ c.next.ensures.value)
    ∙ ap (λ (st : Stage g.row.V). next_in st c.args.self.now.plan.items c.args.self.now.made) (sym c.in-Sweeping.is)

pub returns-in_ok-next-in-Sweeping-clause-value : goal.returns-in_ok-next-in-Sweeping-clause-value
unfolding next_act
returns-in_ok-next-in-Sweeping-clause-value g c =
    ap hand_of (sym c.in_ok-next-in-Sweeping.was ∙ c.next.ensures.value) ∙ ap (λ (st : Stage g.row.V). next_in st c.args.self.now.plan.items c.args.self.now.made) (sym c.in-Sweeping.is)

pub returns-in_ok-next-in-Sweeping-clause-allowed : goal.returns-in_ok-next-in-Sweeping-clause-allowed
returns-in_ok-next-in-Sweeping-clause-allowed g c call s acts on =
    sweep_may g.row.V c.args.self.now call s acts c.in-Sweeping.waiting (Some (Hand c.in_ok-next-in-Sweeping.field-0)) on c.in-Sweeping.is (ap hand_of (sym c.in_ok-next-in-Sweeping.was ∙ c.next.ensures.value))
