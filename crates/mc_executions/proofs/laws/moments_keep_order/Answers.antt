use Rattle.mc_executions.proofs.TimeOrder.{moments_keep_order}
use Rattle.mc_executions.proofs.laws.moments_keep_order.Goals as goal

pub returns : goal.returns
returns g c = moments_keep_order g.row.V
