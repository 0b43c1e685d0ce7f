use Rattle.mc_theory.specs.declared.act.Act.TheVariants.{Hand}
use Rattle.mc_shared.proofs.SeatSteps.{after_plain}
use Rattle.mc_shared.proofs.writer_calls.turn_hand_unless_clear.Goals as goal

pub invariant_of-writer : goal.invariant_of-writer
invariant_of-writer g c =
    after_plain c.writer.invariant c.writer.view_is c.cells.view_is c.cells.invariant.0 c.requires.of c.turn_hand_unless_clear_as_writer.new.seat.me (Hand c.args.i) c.turn_hand_unless_clear_as_writer.result tt c.requires.allowed c.turn_hand_unless_clear_as_writer.ensures.acts c.turn_hand_unless_clear_as_writer.ensures.noted
