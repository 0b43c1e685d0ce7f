use Rattle.mc_shared.proofs.ExactMarks.{marks_are_entries}
use Rattle.mc_shared.proofs.laws.marks_are_entries.Goals as goal

pub returns : goal.returns
returns c = marks_are_entries
