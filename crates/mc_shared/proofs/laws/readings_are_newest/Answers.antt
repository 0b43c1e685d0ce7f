use Rattle.mc_shared.proofs.ExactReadings.{readings_are_newest}
use Rattle.mc_shared.proofs.laws.readings_are_newest.Goals as goal

pub returns : goal.returns
returns c = readings_are_newest
