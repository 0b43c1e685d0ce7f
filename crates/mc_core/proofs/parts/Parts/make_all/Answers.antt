use Rattle.std.proofs.Common.{rules, arith, ◌+◌, take, sym, subst, suc, ap, ◌∙◌, ◌≡◌, List}
use Rattle.std.proofs.Math.Seq.{take-suc}
use Rattle.std.proofs.lemmas.Option.{slice_get-get_or}
use Rattle.mc_core.specs.Inside.Parts.{MakesEvents}
use Rattle.mc_theory.specs.declared.event.Event.{Event}
use Rattle.mc_core.proofs.EventLists.{made_same, made_then, stops_at}
use Rattle.mc_core.proofs.parts.Parts.make_all.Goals as goal

pub make_one-requires : goal.make_one-requires
make_one-requires g c =
    let now = c.loop-i.invariant.made.made c.requires.stands.0 c.requires.stands.1 in
    (search rules, (search rules, ((now.0, now.2), (omega arith, omega arith))))

pub returns-in-Err-clause-made : goal.returns-in-Err-clause-made
returns-in-Err-clause-made g c =
    made_same c.args.self.now c.loop-i.self c.make_one.new.self _ _ c.in-Err.why c.args.done.now.items c.loop-i.done.items c.make_one.new.done.items c.loop-i.invariant.made (c.in-Err.ensures {u = tt}).refused (c.in-Err.ensures {u = tt}).silent

pub returns-in-Err-clause-stops : goal.returns-in-Err-clause-stops
returns-in-Err-clause-stops g c =
    let now = c.loop-i.invariant.made.made c.requires.stands.0 c.requires.stands.1 in
    let e = c.in-Err.ensures {u = tt} in
    stops_at c.loop-i.self c.make_one.new.self c.args.events.now c.loop-i.i _ c.in-Err.why now.0 now.2 (slice_get-get_or c.args.events.now c.loop-i.i _ c.loop-i-test.true) e.refused (omega (arith, c.loop-i.invariant.room))

pub loop-i-preserved : goal.loop-i-preserved
loop-i-preserved g c =
    let now = c.loop-i.invariant in
    let e = c.in_default.ensures {u = tt} in
    let events = c.args.events.now in
    let more = made_then c.args.self.now c.loop-i.self c.make_one.new.self (take c.loop-i.i events) _ c.args.done.now.items c.loop-i.done.items c.make_one.new.done.items now.made e.made in
    let next : suc c.loop-i.i ≡ c.loop-i.i + 1 = omega arith in
    record {
      made = subst (λ (es : List Event). MakesEvents c.args.self.now c.make_one.new.self es c.args.done.now.items c.make_one.new.done.items) (sym (take-suc events c.loop-i.i _ c.loop-i-test.true) ∙ ap (λ n. take n events) next) more;
      room = omega (arith, now.room, e.room);
      spare = omega (arith, now.spare, e.spare);
    }
