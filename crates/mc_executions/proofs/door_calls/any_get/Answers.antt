use Rattle.std.proofs.Common.{arith}
use Rattle.mc_door.specs.AnySides.{role_in, width_of}
use Rattle.mc_executions.proofs.RunningDoor.{gets_told_are_timed}
use Rattle.mc_executions.proofs.door_calls.any_get.Goals as goal

pub returns : goal.returns
returns c = record { timed = gets_told_are_timed (width_of c.args.side.now) (role_in c.args.side.now) (role_in c.get.new.self) _ c.args.key c.args.value.now c.get.new.value _ (omega arith) c.get.ensures.told }
