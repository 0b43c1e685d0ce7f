use Rattle.mc_shared.proofs.ExactReadings.{reads_are_entries}
use Rattle.mc_shared.proofs.laws.reads_are_entries.Goals as goal

pub returns : goal.returns
returns c = reads_are_entries
