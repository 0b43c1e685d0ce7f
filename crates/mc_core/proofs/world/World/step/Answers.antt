use Rattle.std.specs.Prelude.{◌≡◌, ◌+◌, IfOk, IfErr, OnOk, OnErr}
use Rattle.mc_theory.specs.declared.act.Act.{Act}
use Rattle.mc_theory.specs.declared.act.Act.TheVariants as act
use Rattle.mc_theory.specs.declared.event.Event.TheVariants.{Write}
use Rattle.mc_theory.specs.declared.event.Unlawful.TheVariants as unlawful
use Rattle.mc_core.specs.Seen.{WorldView, Shows, MayAct, state_after}
use Rattle.mc_theory.specs.Traces.{Trace, bit_of, given_of, StepsByClock, EventGives, RefusesEvent, IsReached, IsTrueEnd}
use Rattle.mc_words.specs.Shapes.{IsShape}
use Rattle.std.specs.Prelude.{All}
use Rattle.std.proofs.lemmas.Result.{IfOk-weaker, IfErr-weaker}
use Rattle.mc_core.specs.Inside.Parts.{shape_of_parts, view_of}
use Rattle.std.proofs.Common.{rules, subst}
use Rattle.mc_core.proofs.WorldSteps.{reached_push, reached_true, reached_after, shape_after, counted_after, lawful_after, given_after, leads_shown, refused_shown}
use Rattle.mc_core.proofs.world.World.step.Goals as goal

pub step-requires : goal.step-requires
step-requires g c = (search rules, (search rules, (c.self.invariant.seen, c.self.invariant.stand)))

pub invariant_of-self : goal.invariant_of-self
invariant_of-self g c = reached_after c.self.inside.parts c.step.new.self c.args.event c.step.result c.self.invariant c.step.ensures.made c.step.ensures.refused

pub returns-clause-ok : goal.returns-clause-ok
returns-clause-ok g c =
    subst (λ (old : WorldView g.row.V). IfOk c.step.result (λ out. (seen : Trace g.row.V) → Shows {V = g.row.V} old seen → (next : Trace g.row.V) × StepsByClock g.row.V old.shape seen c.args.event next × EventGives {V = g.row.V} seen c.args.event next out × Shows {V = g.row.V} (view_of {V = g.row.V} c.step.new.self) next)) c.self.view_is
    (leads_shown c.self.inside.parts c.step.new.self c.args.event c.step.result c.self.invariant c.step.ensures.made)

pub returns-clause-refused : goal.returns-clause-refused
returns-clause-refused g c =
    subst (λ (old : WorldView g.row.V). IfErr c.step.result (λ why. (seen : Trace g.row.V) → Shows {V = g.row.V} old seen → RefusesEvent {V = g.row.V} old.shape seen c.args.event why)) c.self.view_is
    (refused_shown c.self.inside.parts c.step.new.self c.args.event c.step.result c.self.invariant c.step.ensures.refused)

pub returns-clause-counted : goal.returns-clause-counted
returns-clause-counted g c =
    subst (λ (old : WorldView g.row.V). OnOk c.step.result (c.step.new.self.events ≡ old.events + 1)) c.self.view_is
    (counted_after c.self.inside.parts c.step.new.self c.args.event c.step.result c.self.invariant c.step.ensures.made)

pub returns-clause-lawful : goal.returns-clause-lawful
returns-clause-lawful g c =
    subst (λ (old : WorldView g.row.V). (a : Act) → c.args.event ≡ Write a → MayAct {V = g.row.V} old a → IfErr c.step.result (λ why. (why ≡ unlawful.NoMemory) × (a ≡ act.Moment))) c.self.view_is
    (lawful_after c.self.inside.parts c.step.new.self c.args.event c.step.result c.self.invariant c.step.ensures.refused)

pub returns-clause-given : goal.returns-clause-given
returns-clause-given g c =
    subst (λ (old : WorldView g.row.V). (a : Act) → c.args.event ≡ Write a → IfOk c.step.result (λ out. out ≡ given_of {V = g.row.V} (bit_of old.bits a) a)) c.self.view_is
    (given_after c.self.inside.parts c.step.new.self c.args.event c.step.result c.self.invariant c.step.ensures.made)

pub returns-clause-told : goal.returns-clause-told
returns-clause-told g c =
    let sound : IsShape (view_of {V = g.row.V} c.self.inside.parts).shape = c.self.inside.parts.writer.table.checked.sound in
    subst (λ (old : WorldView g.row.V). IfOk c.step.result (λ out. (seen : Trace g.row.V) → Shows {V = g.row.V} old seen → IsReached g.row.V old.shape seen →
    (next : Trace g.row.V) × StepsByClock g.row.V old.shape seen c.args.event next × EventGives {V = g.row.V} seen c.args.event next out × Shows {V = g.row.V} (view_of {V = g.row.V} c.step.new.self) next ×
    IsReached g.row.V old.shape next × All (IsTrueEnd g.row.V old.shape next) next.ended)) c.self.view_is
    (IfOk-weaker c.step.result _ _ (λ out leads seen shows reached.
    let n = leads seen shows in
    let r = reached_push g.row.V _ seen n.0 c.args.event reached n.1 in
    (n.0, n.1, n.2, n.3, r, reached_true g.row.V _ n.0 sound r))
    (leads_shown c.self.inside.parts c.step.new.self c.args.event c.step.result c.self.invariant c.step.ensures.made))

pub returns-clause-unchanged : goal.returns-clause-unchanged
returns-clause-unchanged g c =
    subst (λ (old : WorldView g.row.V). OnErr c.step.result (view_of {V = g.row.V} c.step.new.self ≡ old)) c.self.view_is
    (IfErr-weaker c.step.result _ _ (λ why refused. refused.kept) c.step.ensures.refused)

pub returns-clause-shape : goal.returns-clause-shape
returns-clause-shape g c =
    subst (λ (old : WorldView g.row.V). shape_of_parts {V = g.row.V} c.step.new.self ≡ old.shape) c.self.view_is
    (shape_after c.self.inside.parts c.step.new.self c.args.event c.step.result c.step.ensures.made c.step.ensures.refused)

pub returns-clause-state : goal.returns-clause-state
returns-clause-state g c =
    subst (λ (old : WorldView g.row.V). OnOk c.step.result ((view_of {V = g.row.V} c.step.new.self).state ≡ state_after {V = g.row.V} old c.args.event)) c.self.view_is
    (IfOk-weaker c.step.result _ _ (λ out made. made.state) c.step.ensures.made)
