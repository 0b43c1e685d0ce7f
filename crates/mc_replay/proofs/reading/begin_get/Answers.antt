use Rattle.std.proofs.Common.{◌≡◌, ℕ, refl, arith, rules, subst, sym, Some, None, Err, [], inr}
use Rattle.mc_replay.specs.declared.fault.Fault.TheVariants.{NoSuchReader, StillRunning}
use Rattle.mc_replay.specs.declared.player.Player.{Player}
use Rattle.mc_replay.specs.Replay.{LookUpDoes}
use Rattle.mc_replay.specs.Inside.Players.{shape_of_player, DoneAs}
use Rattle.mc_replay.proofs.ReaderLines.{SameWriter, at_of, look_up_begins, look_up_runs, no_reader, begin_refused}
use Rattle.mc_replay.proofs.ReaderLines.{player_room, width_can}
use Rattle.mc_replay.proofs.reading.begin_get.Goals as goal

pub returns-in_err-reader : goal.returns-in_err-reader
returns-in_err-reader g c = λ most s room fits.
    let past = no_reader g.row.V c.args.player.now most c.args.reader s fits c.in_err-reader.ensures.err.1 in
    let none : c.from_residual.result ≡ Err NoSuchReader = search rules in
    (s, subst (λ r. DoneAs (LookUpDoes (shape_of_player c.args.player.now) s c.args.reader c.args.key) [] s r) (sym none) (inr (past, refl, refl, refl)), rw none tt)

pub returns-in-Ok : goal.returns-in-Ok
returns-in-Ok g c =
    let old : Player g.row.V = c.args.player.now in
    let new : Player g.row.V = record { world = c.step.new.self; clerk = c.args.player.now.clerk } in
    λ most s room fits.
    let at = at_of g.row.V old most s.running s.world fits in
    let did = c.in-Ok.ensures.ok s.world at.world in
    let same : SameWriter g.row.V old new = record { shape = c.step.ensures.shape; clerk = refl } in
    let begun = look_up_begins g.row.V old new most c.in_ok-reader.reader c.args.key s did.0 fits c.in_ok-reader.ensures.ok.1 same did.3 did.1 in
    (begun.0, subst (λ (r : ℕ). LookUpDoes (shape_of_player old) s r c.args.key [] None begun.0) c.in_ok-reader.ensures.ok.0 begun.1, (c.step.ensures.shape, begun.2))

pub returns-in-Err-StillRunning : goal.returns-in-Err-StillRunning
returns-in-Err-StillRunning g c = λ most s room fits.
    let at = at_of g.row.V c.args.player.now most s.running s.world fits in
    let refused = rw c.in-Err-StillRunning.field-0-is at (c.in-Err-StillRunning.ensures.refused s.world at.world) in
    let runs = look_up_runs g.row.V c.args.player.now most c.in_ok-reader.reader c.args.key s fits c.in_ok-reader.ensures.ok.1 refused in
    (s, subst (λ (r : ℕ). LookUpDoes (shape_of_player c.args.player.now) s r c.args.key [] (Some StillRunning) s) c.in_ok-reader.ensures.ok.0 runs, tt)

pub reader_of-requires : goal.reader_of-requires
reader_of-requires g c = player_room _ _ (omega (arith, width_can g.row.V c.args.player.now [] c.requires)) (omega (arith, width_can g.row.V c.args.player.now [] c.requires))

pub step-requires : goal.step-requires
step-requires g c = (omega (arith, width_can g.row.V c.args.player.now [] c.requires), omega (arith, width_can g.row.V c.args.player.now [] c.requires))

pub saw-requires : goal.saw-requires
saw-requires g c = omega (arith, width_can g.row.V c.args.player.now [] c.requires)

pub unreachable-requires : goal.unreachable-requires
unreachable-requires g c =
    let can = c.requires.1 in
    let at = at_of g.row.V c.args.player.now can.0 can.1.running can.1.world can.3 in
    let runs = begin_refused g.row.V c.args.player.now can.0 c.in_ok-reader.reader c.args.key can.1 c.in-Err.field-0 can.2 can.3 c.in_ok-reader.ensures.ok.1 (c.in-Err.ensures.refused can.1.world at.world) in
    search rules
