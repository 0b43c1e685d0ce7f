use Rattle.std.proofs.Common.{◌≡◌, ℕ, ◌+◌, ◌++◌, List, ap, ◌∙◌, arith, string_bytes}
use Rattle.mc_replay.specs.Replay.{BeginDoes}
use Rattle.mc_replay.specs.Inside.Players.{shape_of_player, most_steps, FitsStill, call_of}
use Rattle.mc_replay.specs.Texts.{answer_line}
use Rattle.mc_replay.specs.declared.player.Player.{Player}
use Rattle.mc_replay.proofs.CommandLines.{idle_of, idle_can, told_as, begin_answered, begin_begun, idle_in, running_in}
use Rattle.mc_replay.proofs.ReaderLines.{player_room, width_can}
use Rattle.mc_replay.proofs.command.begin.Goals as goal

pub returns-in-Some : goal.returns-in-Some
returns-in-Some g c = λ most s room fits.
    let old : Player g.row.V = c.args.player.now in
    let idle = idle_of g.row.V old most s.running s.world fits c.requires.idle in
    let begins = c.in-Some.ensures most s.world idle.1 in
    let told = told_as (BeginDoes (shape_of_player old) s (call_of c.args.call)) (string_bytes c.add_line.new.text) (idle_in s.world) c.add_line.result
    (string_bytes c.add_line.new.text ≡ string_bytes c.args.text.now ++ answer_line c.in-Some.answer) (FitsStill g.row.V old c.begin.new.self (most + most_steps) (idle_in s.world)) c.add_line.ensures.err c.add_line.ensures.ok
    (λ is. begin_answered g.row.V old c.begin.new.self most (call_of c.args.call) s c.in-Some.answer (string_bytes c.add_line.new.text) idle.0 begins (is ∙ ap (λ (l : List ℕ). l ++ answer_line c.in-Some.answer) c.requires.can.0)) in
    (idle_in s.world, told.0, told.1)

pub returns-in-None : goal.returns-in-None
returns-in-None g c = λ most s room fits.
    let old : Player g.row.V = c.args.player.now in
    let idle = idle_of g.row.V old most s.running s.world fits c.requires.idle in
    let begins = c.in-None.ensures most s.world idle.1 in
    let begun = begin_begun g.row.V old c.begin.new.self most (call_of c.args.call) s (string_bytes c.args.text.now) idle.0 begins c.requires.can.0 in
    (running_in (shape_of_player old) s (call_of c.args.call), begun.0, begun.1)

pub begin-requires : goal.begin-requires
begin-requires g c =
    let width = width_can g.row.V c.args.player.now (string_bytes c.args.text.now) c.requires.can in
    let idle = idle_can g.row.V c.args.player.now (string_bytes c.args.text.now) c.requires.can c.requires.idle in
    (player_room _ _ (omega (arith, width)) (omega (arith, width)), (omega (arith, width), (idle.0, idle.1, idle.2)))
