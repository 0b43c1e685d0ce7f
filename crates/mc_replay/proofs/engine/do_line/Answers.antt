use Rattle.std.proofs.Common.{◌≡◌, ℕ, ◌+◌, ◌≤◌, arith, None, sym, subst, ◌∙◌, Ok, Err, Some, string_bytes}
use Rattle.std.specs.Prelude.{OnOk}
use Rattle.mc_script.specs.Commands.{command_in}
use Rattle.mc_replay.specs.Inside.Players.{most_before, FitsScene}
use Rattle.mc_replay.specs.Inside.Steps.{DoesLine}
use Rattle.mc_replay.specs.declared.fault.Fault.{Fault}
use Rattle.mc_replay.specs.declared.player.Player.{Player}
use Rattle.mc_replay.proofs.ReaderLines.{fits_more, player_room, width_of}
use Rattle.mc_replay.proofs.ScriptLines.{line_skipped, line_too_many, line_faulty, line_does, one_line_more, has_room, always_ok}
use Rattle.mc_replay.proofs.engine.do_line.Goals as goal

pub returns-then-before-ge-MOST_LINES-clause-does : goal.returns-then-before-ge-MOST_LINES-clause-does
returns-then-before-ge-MOST_LINES-clause-does g c = λ s fits.
    let empty = c.clear.ensures.bytes in
    (s, line_too_many g.row.V c.args.before s c.args.line.now (string_bytes c.clear.new.self) c.if-before-ge-MOST_LINES.true empty, tt)

pub returns-in-Err-clause-does : goal.returns-in-Err-clause-does
returns-in-Err-clause-does g c = λ s fits.
    let empty = c.clear.ensures.bytes in
    let few = c.if-before-ge-MOST_LINES.false in
    let says : command_in g.row.V c.args.line.now ≡ Err c.in-Err.fault = sym c.parse.ensures ∙ c.in-Err.is in
    let faulty = line_faulty g.row.V c.args.before s c.args.line.now (string_bytes c.clear.new.self) c.in-Err.fault c.requires.short few says empty in
    (s, subst (λ (f : Fault). DoesLine g.row.V c.args.before s c.args.line.now (string_bytes c.clear.new.self) s (Err f)) (sym c.of_line.ensures) faulty, tt)

pub returns-in-Ok-Some-clause-does : goal.returns-in-Ok-Some-clause-does
returns-in-Ok-Some-clause-does g c = λ s fits.
    let few = c.if-before-ge-MOST_LINES.false in
    let says : command_in g.row.V c.args.line.now ≡ Ok (Some c.in-Ok-Some.command) = sym c.parse.ensures ∙ rw c.in-Ok-Some.field-0-is at c.in-Ok-Some.is in
    let did = c.do_command.ensures (most_before c.args.before) s (has_room c.args.before few) (omega arith) fits in
    let new : Player g.row.V = c.do_command.new.player in (
      did.0,
      line_does g.row.V c.args.before s did.0 c.args.line.now (string_bytes c.do_command.new.text) c.in-Ok-Some.command c.do_command.result c.requires.short few says did.1,
      subst (λ (n : ℕ). OnOk c.do_command.result (FitsScene g.row.V new n did.0)) (one_line_more c.args.before) did.2,
    )

pub returns-in-Ok-None-clause-does : goal.returns-in-Ok-None-clause-does
returns-in-Ok-None-clause-does g c = λ s fits.
    let empty = c.clear.ensures.bytes in
    let few = c.if-before-ge-MOST_LINES.false in
    let says : command_in g.row.V c.args.line.now ≡ Ok None = sym c.parse.ensures ∙ rw c.in-Ok-None.field-0-is at c.in-Ok-None.is in
    let more : most_before c.args.before ≤ most_before (c.args.before + 1) = omega arith in (
      s,
      line_skipped g.row.V c.args.before s c.args.line.now (string_bytes c.clear.new.self) c.requires.short few says empty,
      (fits.0, fits_more g.row.V c.args.player.now (most_before c.args.before) (most_before (c.args.before + 1)) s.now.running s.now.world more fits.1),
    )

pub parse-requires : goal.parse-requires
parse-requires g c = omega (arith, width_of g.row.V c.args.player.now (most_before c.args.before) c.requires.fits.0.now.running c.requires.fits.0.now.world c.requires.fits.1.1)

pub of_line-requires : goal.of_line-requires
of_line-requires g c = tt

pub do_command-requires : goal.do_command-requires
do_command-requires g c =
    let s = c.requires.fits.0.now in
    (player_room _ _ (omega (arith, width_of g.row.V c.args.player.now (most_before c.args.before) c.requires.fits.0.now.running c.requires.fits.0.now.world c.requires.fits.1.1)) (omega (arith, width_of g.row.V c.args.player.now (most_before c.args.before) c.requires.fits.0.now.running c.requires.fits.0.now.world c.requires.fits.1.1)), (omega (arith, width_of g.row.V c.args.player.now (most_before c.args.before) c.requires.fits.0.now.running c.requires.fits.0.now.world c.requires.fits.1.1), (c.clear.ensures.bytes, (most_before c.args.before, s, has_room c.args.before c.if-before-ge-MOST_LINES.false, c.requires.fits.1.1))))

pub returns-in-Err-clause-few : goal.returns-in-Err-clause-few
returns-in-Err-clause-few g c = tt

pub returns-in-Ok-None-clause-few : goal.returns-in-Ok-None-clause-few
returns-in-Ok-None-clause-few g c = c.if-before-ge-MOST_LINES.false

pub returns-in-Ok-Some-clause-few : goal.returns-in-Ok-Some-clause-few
returns-in-Ok-Some-clause-few g c = always_ok c.do_command.result _ c.if-before-ge-MOST_LINES.false
