use Rattle.std.proofs.Common.{◌≡◌, ℕ, ◌+◌, ◌++◌, All, List, refl, subst, sym, ◌∙◌, arith, Some, None, string_bytes, rules, ◌<◌, ◌≤◌, length}
use Rattle.mc_words.specs.declared.shape.Shape.{Shape}
use Rattle.mc_theory.specs.Traces.{IsTrueEnd, StepsByClock}
use Rattle.mc_theory.specs.declared.event.Event.TheVariants as event
use Rattle.mc_replay.specs.declared.player.Player.{Player}
use Rattle.mc_replay.specs.declared.fault.Fault.TheVariants.{NothingToStep}
use Rattle.mc_replay.specs.Replay.{AccessesDo}
use Rattle.mc_replay.specs.Inside.Players.{shape_of_player, most_steps}
use Rattle.mc_replay.specs.Inside.Texts.{end_text}
use Rattle.mc_replay.proofs.ReaderLines.{SameWriter, at_of, sound_of, width_of, access_done, readers_after, reads_more, after_access, fits_more, read_refused}
use Rattle.mc_replay.proofs.StepAfterStep.{accesses_push, accesses_stop, left_over, one_more}
use Rattle.mc_replay.proofs.ReaderLines.{width_can}
use Rattle.mc_replay.proofs.reading.accesses.Goals as goal

pub accesses-preserved : goal.accesses-preserved
accesses-preserved g c =
    let old : Player g.row.V = c.args.player.now in
    let mid : Player g.row.V = c.accesses.player in
    let new : Player g.row.V = record { world = c.step.new.self; clerk = c.accesses.player.clerk } in
    let same : SameWriter g.row.V mid new = record { shape = c.step.ensures.shape; clerk = refl } in
    let first = c.requires.can.1 in
    let some = c.accesses.invariant.made first.0 first.1 first.2 first.3 in
    let here = at_of g.row.V mid _ some.0.running some.0.world some.2.fits in
    let next = c.in-Ok.ensures.ok some.0.world here.world in
    record {
      shape = c.step.ensures.shape ∙ c.accesses.invariant.shape;
      readers = readers_after g.row.V (shape_of_player mid) mid.world new.world some.0.world next.0 c.args.reader here.world next.3 next.1 ∙ c.accesses.invariant.readers;
      made = λ most s room fits.
          let so_far = c.accesses.invariant.made most s room fits in
          let m = so_far.0 in
          let at = at_of g.row.V mid _ m.running m.world so_far.2.fits in
          let did = c.in-Ok.ensures.told m.world at.world at.reached in
          let steps : StepsByClock g.row.V (shape_of_player old) m.world (event.Read c.args.reader) did.0 = subst (λ (y : Shape). StepsByClock g.row.V y m.world (event.Read c.args.reader) did.0) c.accesses.invariant.shape did.1 in
          let true = subst (λ (y : Shape). All (IsTrueEnd g.row.V y did.0) did.0.ended) c.accesses.invariant.shape did.5 in
          let access = access_done g.row.V (shape_of_player old) m did.0 c.args.reader c.in-Ok.given steps did.2 true in
          let pushed = accesses_push (shape_of_player old) c.accesses.counter s m (after_access m did.0) c.args.reader (string_bytes c.accesses.text) (end_text c.in-Ok.given) so_far.1 access in
          let more = reads_more g.row.V mid new most c.args.reader c.accesses.counter m did.0 (sound_of g.row.V mid _ m.world at) (width_of g.row.V mid _ m.running m.world so_far.2.fits) so_far.2 same did.3 did.1 in
          (after_access m did.0, subst (λ (t : List ℕ). AccessesDo (shape_of_player old) (c.accesses.counter + 1) s c.args.reader t None (after_access m did.0)) (sym c.in_ok-tell_end.ensures.ok) (subst (λ (n : ℕ). AccessesDo (shape_of_player old) n s c.args.reader (string_bytes c.accesses.text ++ end_text c.in-Ok.given) None (after_access m did.0)) (one_more c.accesses.counter) pushed), more);
    }

pub returns-in-Err-NotLawful : goal.returns-in-Err-NotLawful
returns-in-Err-NotLawful g c =
    let old : Player g.row.V = c.args.player.now in
    let mid : Player g.row.V = c.accesses.player in
    λ most s room fits.
    let so_far = c.accesses.invariant.made most s room fits in
    let m = so_far.0 in
    let at = at_of g.row.V mid _ m.running m.world so_far.2.fits in
    let refused = rw c.in-Err-NotLawful.field-0-is at (c.in-Err-NotLawful.ensures.refused m.world at.world) in
    let left = left_over c.accesses.counter c.args.many c.accesses-test.true in
    (m, subst (λ (n : ℕ). AccessesDo (shape_of_player old) n s c.args.reader (string_bytes c.accesses.text) (Some NothingToStep) m) left.1 (accesses_stop (shape_of_player old) c.accesses.counter left.0 s m c.args.reader (string_bytes c.accesses.text) so_far.1 refused), tt)

pub returns : goal.returns
returns g c = λ most s room fits.
    let so_far = c.accesses.invariant.made most s room fits in
    let m = so_far.0 in
    let all : c.accesses.counter ≡ c.args.many = omega (arith, c.accesses.auto.counter-end, c.accesses-test.false) in
    (m, subst (λ (n : ℕ). AccessesDo (shape_of_player c.args.player.now) n s c.args.reader (string_bytes c.accesses.text) None m) all so_far.1, (c.accesses.invariant.shape, fits_more g.row.V c.accesses.player _ (most + most_steps) m.running m.world (omega (arith, so_far.2.few)) so_far.2.fits))

pub step-requires : goal.step-requires
step-requires g c = (omega (arith, width_can g.row.V c.args.player.now (string_bytes c.args.text.now) c.requires.can), omega (arith, width_can g.row.V c.args.player.now (string_bytes c.args.text.now) c.requires.can))

pub tell_end-requires : goal.tell_end-requires
tell_end-requires g c = omega (arith, width_can g.row.V c.args.player.now (string_bytes c.args.text.now) c.requires.can)

pub saw-requires : goal.saw-requires
saw-requires g c = omega (arith, width_can g.row.V c.args.player.now (string_bytes c.args.text.now) c.requires.can)

pub unreachable-requires : goal.unreachable-requires
unreachable-requires g c =
    let mid : Player g.row.V = c.accesses.player in
    let first = c.requires.can.1 in
    let some = c.accesses.invariant.made first.0 first.1 first.2 first.3 in
    let at = at_of g.row.V mid _ some.0.running some.0.world some.2.fits in
    let few : c.accesses.counter ≤ most_steps = omega (arith, some.2.few) in
    let there : c.args.reader < length mid.world.readers = omega (arith, c.requires.reader, c.accesses.invariant.readers) in
    let none = read_refused g.row.V mid first.0 c.accesses.counter c.args.reader some.0 c.in-Err.field-0 first.2 few some.2.fits there (c.in-Err.ensures.refused some.0.world at.world) in
    search rules
