use Rattle.mc_executions.proofs.RunningShards.{held_call_is_timed}
use Rattle.mc_executions.proofs.shard_calls.holder_call.Goals as goal

pub returns : goal.returns
returns g c = record { timed = held_call_is_timed g.row.V c.args.shards.now _ c.args.holder.now c.call.new.self _ c.call.ensures.made }
