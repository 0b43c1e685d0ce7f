use Rattle.mc_executions.proofs.RunningShards.{held_peek_is_timed}
use Rattle.mc_executions.proofs.shard_calls.holder_peek.Goals as goal

pub returns : goal.returns
returns g c = record { timed = held_peek_is_timed g.row.V c.args.shards.now c.args.key c.args.holder.now c.peek.result c.requires.of c.peek.ensures.plain }
