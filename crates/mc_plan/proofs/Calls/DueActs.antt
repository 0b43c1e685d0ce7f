-- Acts of a plan, made one after the other.
use Rattle.std.proofs.Common.{ℕ, ◌≡◌, ◌≤◌, ◌∙◌, List, [], ◌∷◌, ◌++◌, Some, refl, sym, subst, append_assoc}
use Rattle.mc_words.specs.Checks.{policy_of, shape_of}
use Rattle.mc_words.specs.declared.shape.Shape.{Shape}
use Rattle.mc_theory.specs.Acts.{IsAllowed}
use Rattle.mc_theory.specs.Lists.{Made, AreAllowed, after_all, state_of}
use Rattle.mc_theory.specs.Phases.{Quiet}
use Rattle.mc_theory.specs.States.{State}
use Rattle.mc_theory.specs.declared.act.Act.{Act}
use Rattle.mc_theory.specs.declared.act.Act.TheVariants.{Hand}
use Rattle.mc_theory.proofs.Lists.Fronts.{state_append, state_push}
use Rattle.mc_search.specs.Sweeps.{hand_acts, next_item}
use Rattle.mc_plan.specs.WholeCalls.{AnsweredBy, IsSweepOf, state_after_sweep}
use Rattle.mc_plan.specs.Books.{AreBooksOf, IsPlanned}
use Rattle.mc_plan.specs.Due.{AreDue, PlansAreDue, DueActsCanBeMade, SweepsCanRead, PlansEndCalls}
use Rattle.mc_plan.specs.Making.{as_made, state_after_acts}
use Rattle.mc_plan.proofs.Calls.CanEnd.{acts_made}
use Rattle.mc_plan.proofs.Calls.MidCall.{changes_left, whole_plan}
use Rattle.mc_plan.proofs.Calls.MidSweep.{hand_may, hands_may}

pub planned_due : (V : ℕ) → PlansAreDue V
planned_due V sh b plan call s m told acts same now p =
    let P : Shape → State V → Type 0 = λ x t. AreAllowed x t (as_made plan) × ((state_after_acts V x t plan).phase ≡ Quiet) × ((state_after_acts V x t plan).version_steps ≤ x.limit) in
    let q = subst (λ (t : State V). P sh t) (sym now) (subst (λ (x : Shape). P x m) same (p.allowed, p.ends.quiet.quiet, p.ends.limit)) in
    record { whole = refl; allowed = q.0; quiet = q.1; within = q.2 }

-- the others are due after it
due_made : (V : ℕ) (sh : Shape) (all acts : List Made) (a : Act) (due : List Act) → AreDue V sh all acts (a ∷ due) → AreDue V sh all (acts ++ record { act = a; bit = 0 } ∷ []) due
due_made V sh all acts a due d =
    let next = state_push V sh acts (record { act = a; bit = 0 }) in
    record {
      whole = append_assoc acts (record { act = a; bit = 0 } ∷ []) (as_made due) ∙ d.whole;
      allowed = subst (λ (s : State V). AreAllowed sh s (as_made due)) (sym next) d.allowed.1;
      quiet = subst (λ (s : State V). (state_after_acts V sh s due).phase ≡ Quiet) (sym next) d.quiet;
      within = subst (λ (s : State V). (state_after_acts V sh s due).version_steps ≤ sh.limit) (sym next) d.within;
    }

pub due_may : (V : ℕ) → DueActsCanBeMade V
due_may V sh all acts a due d =
    (d.allowed.0, changes_left V sh (state_of V sh acts) (a ∷ due) 0 a sh.limit d.allowed refl d.quiet d.within, due_made V sh all acts a due d)

-- ---- the hand
pub sweep_may : (V : ℕ) → SweepsCanRead V
sweep_may V sh b waiting call acts rs same on =
    let s = state_of V sh acts in
    let reads = λ (i : ℕ) (next : next_item waiting.sweep ≡ Some i). (hand_may V b waiting call s rs on i next).0 in
    let hands = subst (λ (x : Shape). AreAllowed x s (hand_acts rs)) same (hands_may V b waiting call s rs on) in
    (hands, λ i next. subst (λ (t : State V). IsAllowed sh t (Hand i)) (sym (state_append V sh acts (hand_acts rs))) (subst (λ (x : Shape). IsAllowed x (state_after_sweep V x s rs) (Hand i)) same (reads i next)))

-- ---- the end of a call
pub plan_ends : (V : ℕ) → PlansEndCalls V
plan_ends V sh b plan call acts rs told same hands sweeps p =
    let s = state_of V sh acts in
    let P : Shape → Type 0 = λ x. AreAllowed x s (hand_acts rs) → IsSweepOf V x (policy_of b.checked) s rs told → IsPlanned V b plan call s (state_after_sweep V x s rs) told → AnsweredBy V x (policy_of b.checked) call s (hand_acts rs ++ as_made plan) told × AreBooksOf V b (after_all x s (hand_acts rs ++ as_made plan)) in
    let here : P (shape_of b.checked) = λ h w q.
    let whole = whole_plan V b plan call s rs (as_made plan) told h w q (acts_made plan) in
    (whole.0, subst (λ (t : State V). AreBooksOf V b t) (sym whole.1) q.ends)
    in
    let ends = subst P same here hands sweeps p in
    (ends.0, subst (λ (t : State V). AreBooksOf V b t) (sym (state_append V sh acts (hand_acts rs ++ as_made plan))) ends.1)
