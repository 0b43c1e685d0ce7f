use Rattle.mc_theory.proofs.Events.Spans.{events_tell_histories}
use Rattle.mc_theory.proofs.laws.events_tell_histories.Goals as goal

pub returns : goal.returns
returns g c = events_tell_histories g.row.V
