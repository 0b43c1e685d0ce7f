use Rattle.std.proofs.Common.{refl}
use Rattle.mc_script.proofs.NumberLists.{numbers-nil}
use Rattle.mc_script.proofs.number.entry.Goals as goal

pub returns-in-None : goal.returns-in-None
returns-in-None g c = rw (c.in-None.ensures, numbers-nil) refl
