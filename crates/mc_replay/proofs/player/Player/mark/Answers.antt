use Rattle.std.proofs.Common.{◌≡◌, ◌+◌, refl, ap, arith}
use Rattle.mc_theory.specs.Traces.{Trace}
use Rattle.mc_theory.specs.declared.act.Act.TheVariants.{Mark}
use Rattle.mc_replay.specs.Inside.Players.{shape_of_player}
use Rattle.mc_replay.specs.declared.player.Player.{Player}
use Rattle.mc_replay.proofs.WriterCalls.{makes_one, may_mark, marked}
use Rattle.mc_replay.proofs.player.Player.mark.Goals as goal

pub step-requires : goal.step-requires
step-requires g c = (omega (arith, c.requires.2.knows.books.width), omega (arith, c.requires.2.knows.books.width))

pub unreachable-requires : goal.unreachable-requires
unreachable-requires g c =
    let may = may_mark g.row.V c.args.self.now c.requires.0 c.args.item c.requires.1 c.requires.2 c.requires.3 c.requires.4 in
    absurd (cc ((c.in-Err.ensures.lawful (Mark c.args.item) refl may).1))

pub returns : goal.returns
returns g c = λ most w idle room.
    let old : Player g.row.V = c.args.self.now in
    let new : Player g.row.V = record { world = c.step.new.self; clerk = c.args.self.now.clerk } in
    let did = c.in-Ok.ensures.ok w idle.at.world in
    let makes = makes_one g.row.V (shape_of_player old) w did.0 (Mark c.args.item) did.1 in
    let events : did.0.events ≡ w.events + 1 = ap (λ (y : Trace g.row.V). y.events) did.1.2 in
    marked g.row.V old new most c.args.item w did.0 idle c.in-Ok.ensures.shape refl did.3 makes events
