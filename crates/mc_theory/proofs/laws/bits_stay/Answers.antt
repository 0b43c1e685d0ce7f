use Rattle.mc_theory.proofs.Events.Bits.{bits_stay}
use Rattle.mc_theory.proofs.laws.bits_stay.Goals as goal

pub returns : goal.returns
returns g c = bits_stay g.row.V
