use Rattle.std.proofs.Common.{ℕ, ◌≡◌, ◌+◌, ◌-◌, ◌∙◌, List, ◌∷◌, ◌++◌, [], Option, Some, None, false, not, ap, arith, length, subst, sym, rules}
use Rattle.std.proofs.lemmas.Bool.{false≢true}
use Rattle.std.specs.Option.{IsSome, MatchOption, is_some}
use Rattle.std.specs.Prelude.{slice_get}
use Rattle.mc_theory.specs.Lists.{Made}
use Rattle.mc_theory.specs.States.{State}
use Rattle.mc_theory.specs.declared.act.Act.{Act}
use Rattle.mc_plan.specs.WholeCalls.{Call}
use Rattle.mc_plan.specs.Clerks.{IsAtStage, IsOn, acts_left, left_in, next_act, next_in, shape_of_clerk}
use Rattle.mc_plan.specs.Inside.Clerks.{HasEndedSweep}
use Rattle.mc_plan.specs.declared.clerk.Stage.{Stage}
use Rattle.mc_plan.specs.declared.clerk.Stage.TheVariants.{Sweeping}
use Rattle.mc_plan.proofs.Calls.MidSweep.{HasRead, one_read, words_read}
use Rattle.mc_plan.proofs.Calls.MidCall.{at_stage, next_below, plan_next}
use Rattle.mc_plan.proofs.clerk.Clerk.after.Goals as goal
use Rattle.mc_plan.proofs.clerk.Clerk.after.Goals.{After-after, After-next, In-Planned, In-Sweeping, Then-is_none, Else-is_none}
use Rattle.mc_plan.proofs.clerk.Clerk.after.Given.{Over}

-- one bit more was read
read : (g : Over) (c : After-after g) (call : Call) (s : State g.row.V) (acts : List Made) (a : Act) → IsOn g.row.V c.args.self.now call s acts → next_act c.args.self.now ≡ Some a
    → HasRead g.row.V c.args.self.now c.in-Sweeping.waiting c.after.new.self call s (acts ++ record { act = a; bit = c.args.word } ∷ [])
read g c call s acts a on next = one_read g.row.V c.args.self.now call s acts c.in-Sweeping.waiting a c.args.word c.after.new.self on c.in-Sweeping.is next c.after.ensures.swept

over_at : (o : Option ℕ) (P : Type 0) (Q : ℕ → Type 0) → MatchOption o P Q → is_some o ≡ false → P
over_at None P Q match none = match
over_at (Some i) P Q match none = absurd (false≢true (sym none))

-- the sweep is over
ended : (g : Over) (c : Then-is_none g) (call : Call) (s : State g.row.V) (acts : List Made) (on : IsOn g.row.V c.args.self.now call s acts) (all : List Made) (r : HasRead g.row.V c.args.self.now c.in-Sweeping.waiting c.after.new.self call s all)
    → HasEndedSweep g.row.V (record c.args.self.now { stage = Sweeping (record c.in-Sweeping.waiting { sweep = c.after.new.self }) }) call s r.readings
ended g c call s acts on all r = record {
  begun = on.begun;
  now = (r.sweeping, over_at c.next.result _ _ (c.next.ensures.round (shape_of_clerk c.args.self.now).items s.hand r.readings r.sweeping.has) (c.is_none.ensures ∙ ap not c.if-is_none.true), r.none, r.empty);
}

pub go_on-requires : goal.go_on-requires
go_on-requires g c =
    let q = c.requires in
    let r = read g (goal.at.go_on-requires g c).After-after q.0 q.1 q.2 q.3 q.4 q.5 in
    (search rules, (q.0, q.1, r.readings, ended g (goal.at.go_on-requires g c).Then-is_none q.0 q.1 q.2 q.4 _ r, words_read g.row.V c.args.self.now c.in-Sweeping.waiting c.after.new.self q.0 q.1 _ _ r q.6))

pub returns-then-is_none-clause-on : goal.returns-then-is_none-clause-on
returns-then-is_none-clause-on g c call s acts a on next words =
    let at = goal.at.returns-then-is_none-clause-on g c in
    let r = read g at.After-after call s acts a on next in
    let done = c.go_on.ensures.on call s r.readings (ended g at.Then-is_none call s acts on _ r) (words_read g.row.V c.args.self.now c.in-Sweeping.waiting c.after.new.self call s _ _ r words) in
    subst (λ (xs : List Made). IsOn g.row.V c.go_on.new.self call s xs) (sym r.are) done

-- what was left of the sweep
left_was : (g : Over) (c : In-Sweeping g) → acts_left c.args.self.now ≡ c.in-Sweeping.waiting.sweep.left + 64
unfolding acts_left
left_was g c = ap (λ (st : Stage g.row.V). left_in st c.args.self.now.plan.items c.args.self.now.made) c.in-Sweeping.is

pub returns-then-is_none-clause-left : goal.returns-then-is_none-clause-left
returns-then-is_none-clause-left g c =
    omega (arith, left_was g (goal.at.returns-then-is_none-clause-left g c).In-Sweeping, c.go_on.ensures.left, c.after.ensures.left)

pub returns-else-is_none-clause-on : goal.returns-else-is_none-clause-on
returns-else-is_none-clause-on g c call s acts a on next words =
    let at = goal.at.returns-else-is_none-clause-on g c in
    let r = read g at.After-after call s acts a on next in
    let more = subst (λ (o : Option ℕ). IsSome o) c.next.ensures.value (c.is_none.ensures ∙ ap not c.if-is_none.false) in
    record { begun = on.begun; clock = on.clock; now = (r.readings, r.sweeping, more, r.none, r.are, r.empty) }

pub returns-else-is_none-clause-left : goal.returns-else-is_none-clause-left
unfolding acts_left
returns-else-is_none-clause-left g c =
    omega (arith, left_was g (goal.at.returns-else-is_none-clause-left g c).In-Sweeping, c.after.ensures.left)

-- the next act is the plan's
planned_next : (g : Over) (c : In-Planned g) (a : Act) → next_act c.args.self.now ≡ Some a → slice_get c.args.self.now.plan.items c.args.self.now.made ≡ Some a
unfolding next_act
planned_next g c a next = ap (λ (st : Stage g.row.V). next_in st c.args.self.now.plan.items c.args.self.now.made) (sym c.in-Planned.is) ∙ next

pub returns-in-Planned-clause-on : goal.returns-in-Planned-clause-on
returns-in-Planned-clause-on g c call s acts a on next words =
    let V = g.row.V in
    let clerk = c.args.self.now in
    let told = c.in-Planned.field-0 in
    let makes = at_stage V clerk call s acts told on c.in-Planned.is in
    let more = plan_next V clerk.books clerk.plan.items clerk.made call s acts told makes a c.args.word (planned_next g (goal.at.returns-in-Planned-clause-on g c).In-Planned a next) in
    record { begun = on.begun; clock = on.clock; now = subst (λ (st : Stage V). IsAtStage V st clerk.books clerk.plan.items (clerk.made + 1) call s (acts ++ record { act = a; bit = c.args.word } ∷ [])) (sym c.in-Planned.is) more }

pub returns-in-Planned-clause-left : goal.returns-in-Planned-clause-left
unfolding acts_left
returns-in-Planned-clause-left g c =
    let clerk = c.args.self.now in
    let plan = clerk.plan.items in
    let r = c.requires in
    let below = next_below plan clerk.made r.3 (planned_next g (goal.at.returns-in-Planned-clause-left g c).In-Planned r.3 r.5) in
    let was : left_in clerk.stage plan clerk.made ≡ length plan - clerk.made = ap (λ (st : Stage g.row.V). left_in st plan clerk.made) c.in-Planned.is in
    let is : left_in clerk.stage plan (clerk.made + 1) ≡ length plan - (clerk.made + 1) = ap (λ (st : Stage g.row.V). left_in st plan (clerk.made + 1)) c.in-Planned.is in
    omega (arith, below, was, is)
