use Rattle.mc_executions.proofs.Headline.{headline}
use Rattle.mc_executions.proofs.laws.headline.Goals as goal

pub returns : goal.returns
returns g c = headline g.row.V
