use Rattle.std.proofs.Common.{◌∙◌, arith}
use Rattle.mc_replay.proofs.WriterCalls.{agrees_now}
use Rattle.mc_replay.proofs.player.Player.moment.Goals as goal

pub checked-requires : goal.checked-requires
checked-requires g c = omega (arith, c.requires.2.knows.books.width)

pub moment-requires-room-P-Peek : goal.moment-requires-room-P-Peek
moment-requires-room-P-Peek g c κs = omega (arith, c.requires.2.knows.books.width)

pub moment-requires : goal.moment-requires
moment-requires g c =
    let agrees = agrees_now g.row.V c.args.self.now c.requires.0 c.requires.1 _ c.requires.2 c.checked.ensures in
    omega (arith, agrees.size)

pub returns : goal.returns
returns g c = λ most w idle. c.moment.ensures.value ∙ (agrees_now g.row.V c.args.self.now most w _ idle c.checked.ensures).at_moment
