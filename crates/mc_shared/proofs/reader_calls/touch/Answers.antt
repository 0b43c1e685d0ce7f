use Rattle.std.proofs.Common.{ap, arith}
use Rattle.mc_shared.proofs.SeatViews.{all_of}
use Rattle.mc_shared.proofs.SeatSteps.{layout_in}
use Rattle.mc_shared.proofs.reader_calls.touch.Goals as goal

pub touch-requires : goal.touch-requires
touch-requires g c =
    let outer = ap all_of (layout_in c.cells.view_is c.cells.invariant.0) in
    omega (arith, outer, c.requires.place)
