use Rattle.mc_door.specs.AnySides.{role_in, width_of}
use Rattle.mc_executions.proofs.RunningDoor.{peeks_told_are_timed}
use Rattle.mc_executions.proofs.door_calls.any_peek.Goals as goal

pub returns : goal.returns
returns c = record { timed = peeks_told_are_timed (width_of c.args.side.now) (role_in c.args.side.now) (role_in c.peek.new.self) _ c.args.key c.args.value.now c.peek.new.value _ c.peek.ensures.told }
