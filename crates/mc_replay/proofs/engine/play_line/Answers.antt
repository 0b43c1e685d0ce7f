use Rattle.std.proofs.Common.{◌≡◌, ◌≤◌, arith, ◌∙◌, ap, sym, subst, rules, Ok, Err, true, false, length, string_bytes}
use Rattle.mc_script.specs.Lines.{GivesLine}
use Rattle.mc_script.specs.declared.line.ReadFault.TheVariants as over
use Rattle.std.specs.Prelude.{ℕ, Bool, List}
use Rattle.mc_replay.specs.Inside.Players.{most_before}
use Rattle.mc_replay.specs.Inside.Steps.{DoesLine, is_wanting}
use Rattle.mc_replay.proofs.ScriptLines.{plays_whole, plays_cut, plays_over, plays_none, plays_unread, plays_wanting, stops_refused, not_wanting, refused_is_not_played, none_is_not_played}
use Rattle.mc_replay.proofs.ReaderLines.{player_room, width_of}
use Rattle.mc_replay.proofs.engine.play_line.Goals as goal

pub returns-in-Err-ReadFailed-clause-plays : goal.returns-in-Err-ReadFailed-clause-plays
returns-in-Err-ReadFailed-clause-plays g c = λ s fits.
    let gives : GivesLine (g.R.Read.remaining c.args.input.now) (g.R.Read.remaining c.read_line.new.reader) c.read_line.new.line.items (Err over.ReadFailed) = rw c.in-Err-ReadFailed.field-0-is at c.in-Err-ReadFailed.ensures.gives in
    (s, plays_unread g.row.V c.args.before s c.read_line.new.line.items (g.R.Read.remaining c.args.input.now) (g.R.Read.remaining c.read_line.new.reader) (g.W.Write.contents c.args.output.now) gives, λ e. refused_is_not_played _ e)

pub returns-in-Ok-false-clause-plays : goal.returns-in-Ok-false-clause-plays
returns-in-Ok-false-clause-plays g c = λ s fits.
    let gives : GivesLine (g.R.Read.remaining c.args.input.now) (g.R.Read.remaining c.read_line.new.reader) c.read_line.new.line.items (Ok false) = subst (λ (b : Bool). GivesLine (g.R.Read.remaining c.args.input.now) (g.R.Read.remaining c.read_line.new.reader) c.read_line.new.line.items (Ok b)) c.in-Ok-false.field-0-test c.in-Ok-false.ensures.gives in
    (s, plays_none g.row.V c.args.before s c.read_line.new.line.items (g.R.Read.remaining c.args.input.now) (g.R.Read.remaining c.read_line.new.reader) (g.W.Write.contents c.args.output.now) gives, λ e. none_is_not_played e)

pub returns-then-is_wanting-clause-plays : goal.returns-then-is_wanting-clause-plays
returns-then-is_wanting-clause-plays g c = λ s fits.
    let gives : GivesLine (g.R.Read.remaining c.args.input.now) (g.R.Read.remaining c.read_line.new.reader) c.read_line.new.line.items (Ok true) = subst (λ (b : Bool). GivesLine (g.R.Read.remaining c.args.input.now) (g.R.Read.remaining c.read_line.new.reader) c.read_line.new.line.items (Ok b)) c.in-Ok-true.field-0-test c.in-Ok-true.ensures.gives in
    (s, plays_wanting g.row.V c.args.before s c.read_line.new.line.items (g.R.Read.remaining c.args.input.now) (g.R.Read.remaining c.read_line.new.reader) (g.W.Write.contents c.args.output.now) gives, λ e. refused_is_not_played _ e)

pub returns-in-Err-TooLong-clause-plays : goal.returns-in-Err-TooLong-clause-plays
returns-in-Err-TooLong-clause-plays g c = λ s fits.
    let gives : GivesLine (g.R.Read.remaining c.args.input.now) (g.R.Read.remaining c.read_line.new.reader) c.read_line.new.line.items (Err over.TooLong) = rw c.in-Err-TooLong.field-0-is at c.in-Err-TooLong.ensures.gives in
    (s, plays_over g.row.V c.args.before s c.read_line.new.line.items (g.R.Read.remaining c.args.input.now) (g.R.Read.remaining c.read_line.new.reader) (g.W.Write.contents c.args.output.now) gives, λ e. refused_is_not_played _ e)

pub returns-then-not-is_whole-clause-plays : goal.returns-then-not-is_whole-clause-plays
returns-then-not-is_whole-clause-plays g c = λ s fits.
    let did = c.do_line-done.ensures.does s fits in
    let line = c.read_line.new.line.items in
    let text = string_bytes c.do_line-done.new.text in
    let gives : GivesLine (g.R.Read.remaining c.args.input.now) (g.R.Read.remaining c.read_line.new.reader) line (Ok true) = subst (λ (b : Bool). GivesLine (g.R.Read.remaining c.args.input.now) (g.R.Read.remaining c.read_line.new.reader) c.read_line.new.line.items (Ok b)) c.in-Ok-true.field-0-test c.in-Ok-true.ensures.gives in
    let wrote = rw c.as_bytes.ensures.value at c.send-is_whole.ensures.taken in
    let part = rw c.as_bytes.ensures.value at (c.send-is_whole.ensures.part c.if-not-is_whole.true) in (
      did.0,
      plays_cut g.row.V c.args.before s did.0 line text c.send-is_whole.result.0 (g.R.Read.remaining c.args.input.now) (g.R.Read.remaining c.read_line.new.reader) (g.W.Write.contents c.args.output.now) (g.W.Write.contents c.send-is_whole.new.to)
          c.do_line-done.result gives (rw c.as_slice.ensures.value at did.1) (sym c.is_wanting.ensures ∙ c.if-is_wanting.false) wrote part,
      λ e. refused_is_not_played _ e,
    )

pub returns-clause-plays : goal.returns-clause-plays
returns-clause-plays g c = λ s fits.
    let did = c.in_ok-done.ensures.does s fits in
    let line = c.read_line.new.line.items in
    let text = string_bytes c.do_line-done.new.text in
    let gives : GivesLine (g.R.Read.remaining c.args.input.now) (g.R.Read.remaining c.read_line.new.reader) line (Ok true) = subst (λ (b : Bool). GivesLine (g.R.Read.remaining c.args.input.now) (g.R.Read.remaining c.read_line.new.reader) c.read_line.new.line.items (Ok b)) c.in-Ok-true.field-0-test c.in-Ok-true.ensures.gives in
    let wrote = rw c.as_bytes.ensures.value at c.send-is_whole.ensures.taken in
    let all : c.send-is_whole.result.0 ≡ length text = c.send-is_whole.ensures.all c.if-not-is_whole.false ∙ ap length c.as_bytes.ensures.value in (
      did.0,
      plays_whole g.row.V c.args.before s did.0 line text c.send-is_whole.result.0 (g.R.Read.remaining c.args.input.now) (g.R.Read.remaining c.read_line.new.reader) (g.W.Write.contents c.args.output.now) (g.W.Write.contents c.send-is_whole.new.to)
          gives (rw c.as_slice.ensures.value at did.1) wrote all,
      λ e. did.2,
    )

pub returns-in_err-done-clause-plays : goal.returns-in_err-done-clause-plays
returns-in_err-done-clause-plays g c = λ s fits.
    let did = c.in_err-done.ensures.does s fits in
    let line = c.read_line.new.line.items in
    let text = string_bytes c.do_line-done.new.text in
    let gives : GivesLine (g.R.Read.remaining c.args.input.now) (g.R.Read.remaining c.read_line.new.reader) line (Ok true) = subst (λ (b : Bool). GivesLine (g.R.Read.remaining c.args.input.now) (g.R.Read.remaining c.read_line.new.reader) c.read_line.new.line.items (Ok b)) c.in-Ok-true.field-0-test c.in-Ok-true.ensures.gives in
    let wrote = rw c.as_bytes.ensures.value at c.send-is_whole.ensures.taken in
    let all : c.send-is_whole.result.0 ≡ length text = c.send-is_whole.ensures.all c.if-not-is_whole.false ∙ ap length c.as_bytes.ensures.value in
    let other : is_wanting (Err c.in_err-done.field-0.0) ≡ false = ap is_wanting (sym c.in_err-done.was) ∙ sym c.is_wanting.ensures ∙ c.if-is_wanting.false in
    let is : c.from_residual.result ≡ Err c.in_err-done.field-0.0 = search rules in (
      did.0,
      rw is (stops_refused g.row.V c.args.before s did.0 line text c.send-is_whole.result.0 (g.R.Read.remaining c.args.input.now) (g.R.Read.remaining c.read_line.new.reader) (g.W.Write.contents c.args.output.now) (g.W.Write.contents c.send-is_whole.new.to)
          c.in_err-done.field-0.0 gives (subst (λ (l : List ℕ). DoesLine g.row.V c.args.before s l text did.0 (Err c.in_err-done.field-0.0)) c.as_slice.ensures.value did.1) (not_wanting c.in_err-done.field-0.0 other) wrote all),
      λ e. refused_is_not_played c.in_err-done.field-0.0 (sym is ∙ e),
    )

pub returns-in-Err-ReadFailed-clause-few : goal.returns-in-Err-ReadFailed-clause-few
returns-in-Err-ReadFailed-clause-few g c = λ e. refused_is_not_played _ e

pub returns-in-Err-TooLong-clause-few : goal.returns-in-Err-TooLong-clause-few
returns-in-Err-TooLong-clause-few g c = λ e. refused_is_not_played _ e

pub returns-in-Ok-false-clause-few : goal.returns-in-Ok-false-clause-few
returns-in-Ok-false-clause-few g c = λ e. none_is_not_played e

pub do_line-done-requires : goal.do_line-done-requires
do_line-done-requires g c =
    let short : length c.read_line.new.line.items ≤ 4096 = c.in-Ok-true.ensures.short (ap (λ (b : Bool). Ok b) c.in-Ok-true.field-0-test) in
    (player_room _ _ (omega (arith, width_of g.row.V c.args.player.now (most_before c.args.before) c.requires.0.now.running c.requires.0.now.world c.requires.1.1)) (omega (arith, width_of g.row.V c.args.player.now (most_before c.args.before) c.requires.0.now.running c.requires.0.now.world c.requires.1.1)), ((c.requires.0, c.requires.1), rw c.as_slice.ensures.value short))

pub is_wanting-requires : goal.is_wanting-requires
is_wanting-requires g c = tt

pub returns-then-is_wanting-clause-few : goal.returns-then-is_wanting-clause-few
returns-then-is_wanting-clause-few g c = λ e. refused_is_not_played _ e

pub returns-then-not-is_whole-clause-few : goal.returns-then-not-is_whole-clause-few
returns-then-not-is_whole-clause-few g c = λ e. refused_is_not_played _ e

pub returns-clause-few : goal.returns-clause-few
returns-clause-few g c = λ e. c.in_ok-done.ensures.few
