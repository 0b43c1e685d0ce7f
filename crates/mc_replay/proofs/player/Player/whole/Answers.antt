use Rattle.std.proofs.Common.{arith}
use Rattle.std.proofs.lemmas.Result.{IfOk-weaker}
use Rattle.mc_theory.specs.Lists.{state_of}
use Rattle.mc_plan.specs.WholeCalls.{Call}
use Rattle.mc_replay.specs.Inside.Players.{shape_of_player, call_of}
use Rattle.mc_replay.specs.Replay.{pending}
use Rattle.mc_replay.specs.declared.player.Player.{Player}
use Rattle.mc_replay.proofs.WriterCalls.{whole_at_once, whole_in_time}
use Rattle.mc_replay.proofs.ReaderLines.{player_room}
use Rattle.mc_replay.proofs.player.Player.whole.Goals as goal

pub finish-requires : goal.finish-requires
finish-requires g c =
    let first = c.requires in
    let runs = c.in-None.ensures first.0 first.1 first.2 in
    (player_room _ _ (omega (arith, c.requires.2.knows.books.width)) (omega (arith, c.requires.2.knows.books.width)), (runs.1.1, (_, _, _, runs.1.0, omega (arith, runs.1.0.few, first.3))))

pub returns-in-Some-clause-made : goal.returns-in-Some-clause-made
returns-in-Some-clause-made g c = λ most w idle room.
    let begins = c.in-Some.ensures most w idle in
    whole_at_once g.row.V c.args.self.now c.begin.new.self most (call_of c.args.call) w c.in-Some.answer begins.0 begins.1

pub returns-in-None-clause-made : goal.returns-in-None-clause-made
returns-in-None-clause-made g c =
    IfOk-weaker c.finish.result _ _
    (λ a made most w idle room.
    let old : Player g.row.V = c.args.self.now in
    let mid : Player g.row.V = c.begin.new.self in
    let call : Call = call_of c.args.call in
    let begins = c.in-None.ensures most w idle in
    let done = made most (pending call (state_of g.row.V (shape_of_player old) w.acts)) w begins.1.0 (omega (arith, begins.1.0.few, room)) in
    whole_in_time g.row.V old mid c.finish.new.self most call w a begins.0 begins.1.0.few done)
    c.finish.ensures.made

pub begin-requires : goal.begin-requires
begin-requires g c = (player_room _ _ (omega (arith, c.requires.2.knows.books.width)) (omega (arith, c.requires.2.knows.books.width)), (omega (arith, c.requires.2.knows.books.width), (c.requires.0, c.requires.1, c.requires.2)))

pub returns-in-Some-clause-refused : goal.returns-in-Some-clause-refused
returns-in-Some-clause-refused g c = tt

pub returns-in-None-clause-refused : goal.returns-in-None-clause-refused
returns-in-None-clause-refused g c = c.finish.ensures.refused
