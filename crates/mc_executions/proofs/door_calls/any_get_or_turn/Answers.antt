use Rattle.std.proofs.Common.{arith}
use Rattle.mc_door.specs.AnySides.{role_in, width_of}
use Rattle.mc_executions.proofs.RunningDoor.{gets_or_turns_told_are_timed}
use Rattle.mc_executions.proofs.door_calls.any_get_or_turn.Goals as goal

pub returns : goal.returns
returns c = record { timed = gets_or_turns_told_are_timed (width_of c.args.side.now) (role_in c.args.side.now) (role_in c.get_or_turn.new.self) _ c.args.key c.args.value.now c.get_or_turn.new.value _ (omega arith) c.get_or_turn.ensures.told }
