use Rattle.mc_theory.proofs.Events.Spans.{traces_are_plainly_true}
use Rattle.mc_theory.proofs.laws.traces_are_plainly_true.Goals as goal

pub returns : goal.returns
returns g c = traces_are_plainly_true g.row.V
