use Rattle.mc_shared.proofs.ExactMarks.{marks_are_exact}
use Rattle.mc_shared.proofs.laws.marks_are_exact.Goals as goal

pub returns : goal.returns
returns c = marks_are_exact
