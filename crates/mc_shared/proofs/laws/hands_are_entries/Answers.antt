use Rattle.mc_shared.proofs.ExactHands.{hands_are_entries}
use Rattle.mc_shared.proofs.laws.hands_are_entries.Goals as goal

pub returns : goal.returns
returns c = hands_are_entries
