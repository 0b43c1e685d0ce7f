use Rattle.mc_executions.proofs.RunningShards.{holder_is_timed}
use Rattle.mc_executions.proofs.shard_calls.holder_get.Goals as goal

pub returns : goal.returns
returns g c = record { timed = holder_is_timed g.row.V c.args.shards.now c.args.key c.args.holder.now c.get.new.self c.get.result c.get.ensures.of c.get.ensures.got }
