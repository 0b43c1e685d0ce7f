use Rattle.std.proofs.Common.{◌+◌, ◌∙◌, arith, refl, sym, subst, string_bytes}
use Rattle.mc_words.specs.declared.shape.Shape.{Shape}
use Rattle.mc_script.specs.declared.command.Command.{Command}
use Rattle.mc_replay.specs.declared.player.Player.{Player}
use Rattle.mc_replay.specs.Replay.{CommandDoes, Does}
use Rattle.mc_replay.specs.Inside.Players.{DoneAs, most_steps, shape_of_player}
use Rattle.mc_replay.proofs.SceneLines.{fits_wider, is_reopen, stays_done, staying, still_fits}
use Rattle.mc_replay.proofs.ReaderLines.{player_room, width_can}
use Rattle.mc_replay.proofs.command.do_command.Goals as goal

pub returns-in-Some : goal.returns-in-Some
returns-in-Some g c = λ most s room more fits.
    let did = c.reopen.ensures.does most s fits in
    let is = is_reopen c.args.command c.in-Some.buckets c.in-Some.items (sym c.sizes_of.ensures ∙ c.in-Some.is) in (
      did.0,
      subst (λ (x : Command g.row.V). DoneAs (CommandDoes s x) (string_bytes c.reopen.new.text) did.0 c.reopen.result) (sym is) did.1,
      fits_wider g.row.V c.reopen.new.player most did.0 c.reopen.result more did.2,
    )

pub returns-in-None : goal.returns-in-None
returns-in-None g c = λ most s room more fits.
    let old : Player g.row.V = c.args.player.now in
    let did = c.do_here.ensures most s.now room fits.1 in
    let does = subst (λ (sh : Shape). DoneAs (Does sh s.now c.args.command) (string_bytes c.do_here.new.text) did.0 c.do_here.result) fits.0 did.1 in (
      staying s did.0,
      stays_done s c.args.command (string_bytes c.do_here.new.text) did.0 c.do_here.result (sym c.sizes_of.ensures ∙ c.in-None.is) does,
      still_fits g.row.V old c.do_here.new.player s (most + most_steps) did.0 c.do_here.result fits.0 did.2,
    )

pub reopen-requires : goal.reopen-requires
reopen-requires g c =
    let width = width_can g.row.V c.args.player.now (string_bytes c.args.text.now) c.requires in
    (player_room _ _ (omega (arith, width)) (omega (arith, width)), (c.requires.0, (c.requires.1.0, record { shape = shape_of_player {V = g.row.V} c.args.player.now; now = c.requires.1.1 }, (refl, c.requires.1.3))))

pub do_here-requires : goal.do_here-requires
do_here-requires g c =
    let width = width_can g.row.V c.args.player.now (string_bytes c.args.text.now) c.requires in
    (player_room _ _ (omega (arith, width)) (omega (arith, width)), (omega (arith, width), (c.requires, sym c.sizes_of.ensures ∙ c.in-None.is)))
