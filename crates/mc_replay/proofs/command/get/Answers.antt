use Rattle.std.proofs.Common.{◌≡◌, ℕ, ◌+◌, ◌++◌, List, ap, ◌∙◌, arith, rules, string_bytes}
use Rattle.mc_replay.specs.Replay.{GetDoes}
use Rattle.mc_replay.specs.Inside.Players.{shape_of_player, most_steps, FitsStill}
use Rattle.mc_replay.specs.Texts.{reply_line}
use Rattle.mc_replay.specs.declared.player.Player.{Player}
use Rattle.mc_replay.proofs.CommandLines.{idle_of, idle_can, told_as, get_done, idle_in}
use Rattle.mc_replay.proofs.ReaderLines.{player_room, width_can}
use Rattle.mc_replay.proofs.command.get.Goals as goal

pub returns : goal.returns
returns g c = λ most s room fits.
    let old : Player g.row.V = c.args.player.now in
    let idle = idle_of g.row.V old most s.running s.world fits c.requires.idle in
    let done = c.get-reply.ensures most s.world idle.1 room in
    let told = told_as (GetDoes (shape_of_player old) s c.args.key (reply_line {V = g.row.V})) (string_bytes c.add_line.new.text) (idle_in done.after) c.add_line.result
    (string_bytes c.add_line.new.text ≡ string_bytes c.args.text.now ++ reply_line c.get-reply.result) (FitsStill g.row.V old c.get-reply.new.self (most + most_steps) (idle_in done.after)) c.add_line.ensures.err c.add_line.ensures.ok
    (λ is. get_done g.row.V old c.get-reply.new.self most c.args.key s c.get-reply.result (reply_line {V = g.row.V}) (string_bytes c.add_line.new.text) idle.0 done (is ∙ ap (λ (l : List ℕ). l ++ reply_line c.get-reply.result) c.requires.can.0)) in
    (idle_in done.after, told.0, told.1)

pub get-reply-requires : goal.get-reply-requires
get-reply-requires g c =
    let width = width_can g.row.V c.args.player.now (string_bytes c.args.text.now) c.requires.can in
    (player_room _ _ (omega (arith, width)) (omega (arith, width)), (omega (arith, width), idle_can g.row.V c.args.player.now (string_bytes c.args.text.now) c.requires.can c.requires.idle))

pub add_line-requires : goal.add_line-requires
add_line-requires g c κs =
    let width = width_can g.row.V c.args.player.now (string_bytes c.args.text.now) c.requires.can in
    ((omega (arith, width), tt), search rules)
