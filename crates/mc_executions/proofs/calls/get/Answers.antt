use Rattle.std.proofs.Common.{arith}
use Rattle.mc_executions.proofs.RunningCalls.{looked_is_timed}
use Rattle.mc_executions.proofs.calls.get.Goals as goal

pub returns : goal.returns
returns g c = record { timed = looked_is_timed g.row.V c.args.cache.now.layout.shape c.args.key c.args.reader.now c.get.new.self c.get.result c.known.ensures.shape (omega arith) c.get.ensures.looked }
