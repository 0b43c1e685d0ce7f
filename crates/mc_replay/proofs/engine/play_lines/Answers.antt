use Rattle.std.proofs.Common.{arith, refl, ap, subst, Ok}
use Rattle.std.specs.Prelude.{Bool}
use Rattle.mc_words.specs.declared.shape.Shape.{Shape}
use Rattle.mc_replay.specs.Replay.{first_scene}
use Rattle.mc_replay.specs.Inside.Players.{most_before, shape_of_player}
use Rattle.mc_replay.specs.Inside.Steps.{PlaysKnown}
use Rattle.mc_replay.proofs.ScriptLines.{known_none, known_more, replays_all, replays_part}
use Rattle.mc_replay.proofs.ReaderLines.{fits_more, player_room}
use Rattle.mc_replay.proofs.engine.play_lines.Goals as goal

pub lines-init : goal.lines-init
lines-init g c = (
  λ readers many fits.
      let start = first_scene g.row.V (shape_of_player {V = g.row.V} c.args.player.now) readers in
      (start, (refl, fits_more g.row.V c.args.player.now 0 (most_before 0) start.now.running start.now.world (omega arith) fits), known_none g.row.V start (g.R.Read.remaining c.args.input.now) (g.W.Write.contents c.args.output.now)),
  omega arith,
)

pub play_line-requires : goal.play_line-requires
play_line-requires g c =
    let so_far = c.lines.invariant.0 c.requires.0 c.requires.1 c.requires.2 in
    (player_room _ _ (omega (arith, c.requires.2.knows.books.width)) (omega (arith, c.requires.2.knows.books.width)), (so_far.0, so_far.1))

pub lines-preserved : goal.lines-preserved
lines-preserved g c = (
  λ readers many fits.
      let so_far = c.lines.invariant.0 readers many fits in
      let sh : Shape = shape_of_player {V = g.row.V} c.args.player.now in
      let step = c.in-Ok-true.ensures.plays so_far.0 so_far.1 in
      let still = step.2 (ap (λ (b : Bool). Ok b) c.in-Ok-true.field-0-test) in
      let played = subst (λ (b : Bool). PlaysKnown g.row.V c.lines.before so_far.0 step.0 (g.R.Read.remaining c.lines.input) (g.R.Read.remaining c.play_line.new.input) (g.W.Write.contents c.lines.output) (g.W.Write.contents c.play_line.new.output) (Ok b)) c.in-Ok-true.field-0-test step.1 in (
        step.0,
        still,
        known_more g.row.V (first_scene g.row.V sh readers) (g.R.Read.remaining c.args.input.now) (g.R.Read.remaining c.lines.input) (g.R.Read.remaining c.play_line.new.input)
            (g.W.Write.contents c.args.output.now) (g.W.Write.contents c.lines.output) (g.W.Write.contents c.play_line.new.output) c.lines.before so_far.0 step.0 so_far.2 played,
      ),
  omega (arith, c.in-Ok-true.ensures.few (ap (λ (b : Bool). Ok b) c.in-Ok-true.field-0-test)),
)

pub returns-in-Ok-false : goal.returns-in-Ok-false
returns-in-Ok-false g c = λ readers many fits.
    let so_far = c.lines.invariant.0 readers many fits in
    let sh : Shape = shape_of_player {V = g.row.V} c.args.player.now in
    let step = c.in-Ok-false.ensures.plays so_far.0 so_far.1 in
    let played = subst (λ (b : Bool). PlaysKnown g.row.V c.lines.before so_far.0 step.0 (g.R.Read.remaining c.lines.input) (g.R.Read.remaining c.play_line.new.input) (g.W.Write.contents c.lines.output) (g.W.Write.contents c.play_line.new.output) (Ok b)) c.in-Ok-false.field-0-test step.1 in
    replays_all g.row.V sh readers (g.R.Read.remaining c.args.input.now) (g.R.Read.remaining c.lines.input) (g.R.Read.remaining c.play_line.new.input)
    (g.W.Write.contents c.args.output.now) (g.W.Write.contents c.lines.output) (g.W.Write.contents c.play_line.new.output) c.lines.before so_far.0 step.0 many so_far.2 played

pub returns-in-Err : goal.returns-in-Err
returns-in-Err g c = λ readers many fits.
    let so_far = c.lines.invariant.0 readers many fits in
    let sh : Shape = shape_of_player {V = g.row.V} c.args.player.now in
    let step = c.in-Err.ensures.plays so_far.0 so_far.1 in
    replays_part g.row.V sh readers (g.R.Read.remaining c.args.input.now) (g.R.Read.remaining c.lines.input) (g.R.Read.remaining c.play_line.new.input)
    (g.W.Write.contents c.args.output.now) (g.W.Write.contents c.lines.output) (g.W.Write.contents c.play_line.new.output) c.lines.before so_far.0 step.0 c.in-Err.fault many so_far.2 step.1
