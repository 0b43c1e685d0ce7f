use Rattle.std.proofs.Common.{arith}
use Rattle.mc_executions.proofs.RunningShards.{pass_is_timed}
use Rattle.mc_executions.proofs.shard_calls.pass_get_or_desk.Goals as goal

pub returns : goal.returns
returns g c = record { timed = pass_is_timed g.row.V c.args.shards.now c.args.key c.args.pass.now c.get_or_desk.new.self c.get_or_desk.result (omega arith) c.get_or_desk.ensures.looked }
