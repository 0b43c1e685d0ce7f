use Rattle.std.proofs.Common.{arith, subst, sym}
use Rattle.mc_words.specs.Checks.{shape_of}
use Rattle.mc_words.specs.declared.shape.Shape.{Shape}
use Rattle.mc_replay.specs.Replay.{first_replay}
use Rattle.mc_replay.specs.Inside.Players.{Fits}
use Rattle.mc_replay.proofs.ScriptLines.{replays_none}
use Rattle.mc_replay.proofs.ReaderLines.{player_room}
use Rattle.mc_replay.proofs.engine.play_watched.Goals as goal

pub play_lines-requires : goal.play_lines-requires
play_lines-requires g c =
    let is = c.in-Ok.ensures in (
      player_room _ _ (omega arith) (omega arith),
      (c.args.readers, is.readers, subst (λ (sh : Shape). Fits g.row.V c.in-Ok.player 0 (first_replay g.row.V sh c.args.readers)) (sym is.shape) is.fits),
    )

pub returns-in-Err : goal.returns-in-Err
returns-in-Err g c = replays_none g.row.V (shape_of c.args.checked.now) c.args.readers (g.R.Read.remaining c.args.input.now) (g.W.Write.contents c.args.output.now) c.in-Err.fault c.in-Err.ensures.refused

pub new-requires : goal.new-requires
new-requires g c = (player_room _ _ (omega arith) (omega arith), c.requires)
