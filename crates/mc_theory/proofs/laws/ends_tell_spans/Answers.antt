use Rattle.mc_theory.proofs.Events.Spans.{ends_tell_spans}
use Rattle.mc_theory.proofs.laws.ends_tell_spans.Goals as goal

pub returns : goal.returns
returns g c = ends_tell_spans g.row.V
