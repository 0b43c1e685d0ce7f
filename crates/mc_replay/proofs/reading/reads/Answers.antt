use Rattle.std.proofs.Common.{◌≡◌, refl, arith, rules, subst, sym, Err, inr, string_bytes}
use Rattle.mc_replay.specs.declared.fault.Fault.TheVariants.{NoSuchReader}
use Rattle.mc_replay.specs.Replay.{ReadsDo}
use Rattle.mc_replay.specs.Inside.Players.{shape_of_player, DoneAs}
use Rattle.mc_replay.proofs.ReaderLines.{no_reader}
use Rattle.mc_replay.proofs.ReaderLines.{player_room, width_can}
use Rattle.mc_replay.proofs.reading.reads.Goals as goal

pub returns-in_err-reader : goal.returns-in_err-reader
returns-in_err-reader g c = λ most s room fits.
    let past = no_reader g.row.V c.args.player.now most c.args.reader s fits c.in_err-reader.ensures.err.1 in
    let none : c.from_residual.result ≡ Err NoSuchReader = search rules in
    (s, subst (λ r. DoneAs (ReadsDo (shape_of_player c.args.player.now) s c.args.reader c.args.many) (string_bytes c.args.text.now) s r) (sym none) (inr (past, refl, c.requires.0, refl)), rw none tt)

pub reader_of-requires : goal.reader_of-requires
reader_of-requires g c = player_room _ _ (omega (arith, width_can g.row.V c.args.player.now (string_bytes c.args.text.now) c.requires)) (omega (arith, width_can g.row.V c.args.player.now (string_bytes c.args.text.now) c.requires))

pub accesses-requires : goal.accesses-requires
accesses-requires g c = (player_room _ _ (omega (arith, width_can g.row.V c.args.player.now (string_bytes c.args.text.now) c.requires)) (omega (arith, width_can g.row.V c.args.player.now (string_bytes c.args.text.now) c.requires)), (c.requires, c.in_ok-reader.ensures.ok.1))
