use Rattle.std.proofs.Common.{ℕ, ◌+◌, ◌-◌, ◌<◌, subst, arith}
use Rattle.std.specs.Prelude.{Option, IsSome, ◌^◌}
use Rattle.mc_plan.specs.Clerks.{acts_left, next_act}
use Rattle.mc_plan.specs.declared.answer.Answer.{Answer}
use Rattle.mc_replay.specs.Inside.Players.{IsInCall, MakesAct, with_acts}
use Rattle.mc_replay.specs.Replay.{Pending}
use Rattle.mc_theory.specs.Traces.{Trace}
use Rattle.mc_replay.specs.declared.player.Player.{Player}
use Rattle.mc_replay.proofs.WriterCalls.{makes_nothing, makes_more, makes_last_of, room_left}
use Rattle.mc_plan.proofs.Calls.MidCall.{on_width}
use Rattle.mc_replay.proofs.ReaderLines.{player_room}
use Rattle.mc_replay.proofs.player.Player.finish.Goals as goal

pub acts-init : goal.acts-init
acts-init g c = (c.requires.runs, λ most p w call runs room. makes_nothing g.row.V c.args.self.now most p w (call, runs))

pub act-requires : goal.act-requires
act-requires g c =
    let call = c.requires.call in
    let some = c.acts.invariant.1 call.0 call.1 call.2 call.3 c.requires.runs call.4 in
    (player_room _ _ (omega (arith, on_width g.row.V c.args.self.now.clerk call.1.call call.1.from call.1.acts call.3.on)) (omega (arith, on_width g.row.V c.args.self.now.clerk call.1.call call.1.from call.1.acts call.3.on)), (c.acts.invariant.0, (_, _, _, some.call.0, room_left g.row.V c.args.self.now c.acts.self call.0 call.1 call.2 some call.4)))

pub returns-in-Some-clause-made : goal.returns-in-Some-clause-made
returns-in-Some-clause-made g c = λ most p w call room.
    let old : Player g.row.V = c.args.self.now in
    let now : Player g.row.V = c.acts.self in
    let some = c.acts.invariant.1 most p w call c.requires.runs room in
    let act = c.in_ok-answer.ensures.made (most + (acts_left old.clerk - acts_left now.clerk)) (with_acts p some.acts) some.after some.call.0 (room_left g.row.V old now most p w some room) in
    makes_last_of g.row.V old now c.act.new.self most p w c.in-Some.answer some (subst (λ (o : Option Answer). MakesAct g.row.V now c.act.new.self (most + (acts_left old.clerk - acts_left now.clerk)) (with_acts p some.acts) some.after o) c.in-Some.is act)

pub acts-smaller : goal.acts-smaller
acts-smaller g c =
    let call = c.requires.call in
    let old : Player g.row.V = c.args.self.now in
    let now : Player g.row.V = c.acts.self in
    let some = c.acts.invariant.1 call.0 call.1 call.2 call.3 c.requires.runs call.4 in
    let act = c.in_ok-answer.ensures.made (call.0 + (acts_left old.clerk - acts_left now.clerk)) (with_acts call.1 some.acts) some.after some.call.0 (room_left g.row.V old now call.0 call.1 call.2 some call.4) in
    let more = subst (λ (o : Option Answer). MakesAct g.row.V now c.act.new.self (call.0 + (acts_left old.clerk - acts_left now.clerk)) (with_acts call.1 some.acts) some.after o) c.in_default.is act in
    more.goes_on.1

pub acts-preserved : goal.acts-preserved
acts-preserved g c =
    let old : Player g.row.V = c.args.self.now in
    let now : Player g.row.V = c.acts.self in
    let step = λ (most : ℕ) (p : Pending g.row.V) (w : Trace g.row.V) (call : IsInCall g.row.V old most p w) (runs : IsSome (next_act old.clerk)) (room : most + acts_left old.clerk < 2 ^ 64 - 1).
    let some = c.acts.invariant.1 most p w call runs room in
    let act = c.in_ok-answer.ensures.made (most + (acts_left old.clerk - acts_left now.clerk)) (with_acts p some.acts) some.after some.call.0 (room_left g.row.V old now most p w some room) in
    makes_more g.row.V old now c.act.new.self most p w some (subst (λ (o : Option Answer). MakesAct g.row.V now c.act.new.self (most + (acts_left old.clerk - acts_left now.clerk)) (with_acts p some.acts) some.after o) c.in_default.is act) in
    let first = c.requires.call in
    ((step first.0 first.1 first.2 first.3 c.requires.runs first.4).call.1, step)

pub returns-in-Some-clause-refused : goal.returns-in-Some-clause-refused
returns-in-Some-clause-refused g c = tt
