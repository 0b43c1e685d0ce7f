use Rattle.std.proofs.Common.{arith}
use Rattle.mc_theory.proofs.Lists.Bounds.{state_length}
use Rattle.mc_writer.proofs.get_call.moment.Goals as goal

pub moment-requires : goal.moment-requires
moment-requires g c =
    let long = state_length g.row.V c.args.cells.now.layout.shape c.args.seat.now.acts in
    omega arith
