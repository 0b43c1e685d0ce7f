use Rattle.mc_executions.proofs.Linearizable.{calls_are_linearizable}
use Rattle.mc_executions.proofs.laws.calls_are_linearizable.Goals as goal

pub returns : goal.returns
returns g c = calls_are_linearizable g.row.V
