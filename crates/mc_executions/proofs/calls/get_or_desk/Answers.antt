use Rattle.std.proofs.Common.{arith}
use Rattle.mc_executions.proofs.RunningCalls.{looked_or_met_is_timed}
use Rattle.mc_executions.proofs.calls.get_or_desk.Goals as goal

pub returns : goal.returns
returns g c = record { timed = looked_or_met_is_timed g.row.V c.args.cache.now.layout.shape c.args.key c.args.reader.now c.get_or_desk.new.self c.get_or_desk.result c.known.ensures.shape (omega arith) c.get_or_desk.ensures.looked }
