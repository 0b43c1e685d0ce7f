use Rattle.mc_executions.proofs.ShardedTime.{shards_are_timed}
use Rattle.mc_executions.proofs.laws.shards_are_timed.Goals as goal

pub returns : goal.returns
returns g c = shards_are_timed g.row.V
