use Rattle.std.proofs.Common.{ℕ, Option, Some, None, ◌≡◌, ◌∙◌, inl, inr, false, ap, refl, sym, subst}
use Rattle.std.proofs.lemmas.Bool.{false≢true}
use Rattle.std.specs.Option.{IsSome, is_some}
use Rattle.mc_theory.specs.declared.act.Act.{Act}
use Rattle.mc_plan.specs.Clerks.{HasCall, StageHasCall, hand_of, next_act, next_in}
use Rattle.mc_search.specs.Sweeps.{next_item}
use Rattle.mc_plan.specs.declared.clerk.Stage.{Stage}
use Rattle.mc_plan.proofs.Calls.MidCall.{on_runs, whole_call}
use Rattle.mc_plan.proofs.clerk.Clerk.answer.Goals as goal
use Rattle.mc_plan.proofs.clerk.Clerk.answer.Goals.{In-Idle}
use Rattle.mc_plan.proofs.clerk.Clerk.answer.Given.{Over}

none_from : (o : Option Act) → is_some o ≡ false → o ≡ None
none_from None e = refl
none_from (Some a) e = absurd (false≢true (sym e))

-- if no call runs, or the hand still has an item to read, no answer is due
sweeps_on : (o : Option ℕ) → IsSome o → hand_of o ≡ None → ⊥
sweeps_on None some e = absurd (false≢true some)
sweeps_on (Some i) some e = cc

not_due : (g : Over) (c : In-Idle g) → HasCall {V = g.row.V} c.args.self.now → next_act c.args.self.now ≡ None → ⊥
unfolding HasCall next_act
not_due g c runs next =
    let clerk = c.args.self.now in
    elim c.in-Idle.is [
      | inl idle ↦ absurd (subst (λ (st : Stage g.row.V). StageHasCall st) idle runs)
      | inr at ↦ sweeps_on (next_item at.0.sweep) (subst (λ (st : Stage g.row.V). StageHasCall st) at.1 runs) (ap (λ (st : Stage g.row.V). next_in st clerk.plan.items clerk.made) (sym at.1) ∙ next)
    ]

pub returns-in-Idle-clause-some : goal.returns-in-Idle-clause-some
unfolding HasCall
returns-in-Idle-clause-some g c =
    (λ e. absurd (false≢true e), λ r. absurd (not_due g (goal.at.returns-in-Idle-clause-some g c).In-Idle r.0 r.1))

pub returns-in-Idle-clause-due : goal.returns-in-Idle-clause-due
returns-in-Idle-clause-due g c call s acts on next =
    absurd (not_due g (goal.at.returns-in-Idle-clause-due g c).In-Idle (on_runs g.row.V c.args.self.now call s acts on) next)

pub returns-in-Planned-clause-some : goal.returns-in-Planned-clause-some
unfolding HasCall
returns-in-Planned-clause-some g c =
    let none = none_from c.next.result (sym c.is_some.ensures ∙ c.if-is_some.false) in
    (λ e. (subst (λ (st : Stage g.row.V). StageHasCall st) (sym c.in-Planned.is) tt, sym c.next.ensures.value ∙ none), λ r. refl)

pub returns-in-Planned-clause-told : goal.returns-in-Planned-clause-told
returns-in-Planned-clause-told g c call s acts on =
    let none = none_from c.next.result (sym c.is_some.ensures ∙ c.if-is_some.false) in
    whole_call g.row.V c.args.self.now call s acts c.in-Planned.answer on (sym c.next.ensures.value ∙ none) c.in-Planned.is
