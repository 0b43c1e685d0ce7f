use Rattle.mc_shared.proofs.StaleReadings.{stale_readings_are_refused}
use Rattle.mc_shared.proofs.laws.stale_readings_are_refused.Goals as goal

pub returns : goal.returns
returns c = stale_readings_are_refused
