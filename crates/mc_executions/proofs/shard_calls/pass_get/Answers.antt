use Rattle.std.proofs.Common.{arith}
use Rattle.mc_executions.proofs.RunningShards.{looked_or_met, pass_is_timed}
use Rattle.mc_executions.proofs.shard_calls.pass_get.Goals as goal

pub returns : goal.returns
returns g c = record {
  timed = pass_is_timed g.row.V c.args.shards.now c.args.key c.args.pass.now c.get.new.self c.get.result (omega arith) (looked_or_met g.row.V c.args.shards.now c.args.key c.args.pass.now c.get.new.self c.get.result c.get.ensures.looked);
}
