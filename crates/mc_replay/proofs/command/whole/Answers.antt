use Rattle.std.proofs.Common.{◌≡◌, ℕ, ◌+◌, ◌++◌, List, Err, sym, ap, subst, ◌∙◌, arith, rules, string_bytes}
use Rattle.mc_replay.specs.Replay.{CallDoes}
use Rattle.mc_replay.specs.Inside.Players.{shape_of_player, most_steps, DoneAs, FitsStill, call_of}
use Rattle.mc_replay.specs.Texts.{answer_line}
use Rattle.mc_replay.specs.declared.fault.Fault.TheVariants.{NoMemory}
use Rattle.mc_replay.specs.declared.player.Player.{Player}
use Rattle.mc_replay.proofs.CommandLines.{idle_of, idle_can, told_as, call_done, idle_in}
use Rattle.mc_replay.proofs.ReaderLines.{player_room, width_can}
use Rattle.mc_replay.proofs.command.whole.Goals as goal

pub returns : goal.returns
returns g c = λ most s room fits.
    let old : Player g.row.V = c.args.player.now in
    let idle = idle_of g.row.V old most s.running s.world fits c.requires.idle in
    let done = c.in_ok-answer.ensures.made most s.world idle.1 room in
    let told = told_as (CallDoes (shape_of_player old) s (call_of c.args.call)) (string_bytes c.add_line.new.text) (idle_in done.after) c.add_line.result
    (string_bytes c.add_line.new.text ≡ string_bytes c.args.text.now ++ answer_line c.in_ok-answer.answer) (FitsStill g.row.V old c.whole.new.self (most + most_steps) (idle_in done.after)) c.add_line.ensures.err c.add_line.ensures.ok
    (λ is. call_done g.row.V old c.whole.new.self most (call_of c.args.call) s c.in_ok-answer.answer (string_bytes c.add_line.new.text) idle.0 done (is ∙ ap (λ (l : List ℕ). l ++ answer_line c.in_ok-answer.answer) c.requires.can.0)) in
    (idle_in done.after, told.0, told.1)

pub returns-in_err-answer : goal.returns-in_err-answer
returns-in_err-answer g c = λ most s room fits.
    let none : c.from_residual.result ≡ Err NoMemory = search rules in
    (s, subst (λ r. DoneAs (CallDoes (shape_of_player c.args.player.now) s (call_of c.args.call)) (string_bytes c.args.text.now) s r) (sym none) tt, rw none tt)

pub whole-requires : goal.whole-requires
whole-requires g c =
    let width = width_can g.row.V c.args.player.now (string_bytes c.args.text.now) c.requires.can in
    (player_room _ _ (omega (arith, width)) (omega (arith, width)), (omega (arith, width), idle_can g.row.V c.args.player.now (string_bytes c.args.text.now) c.requires.can c.requires.idle))
