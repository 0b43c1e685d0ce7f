use Rattle.mc_theory.specs.declared.act.Act.TheVariants.{Mark}
use Rattle.mc_shared.proofs.SeatSteps.{after_plain}
use Rattle.mc_shared.proofs.writer_calls.set_mark_unless_set.Goals as goal

pub invariant_of-writer : goal.invariant_of-writer
invariant_of-writer g c =
    after_plain c.writer.invariant c.writer.view_is c.cells.view_is c.cells.invariant.0 c.requires.of c.set_mark_unless_set_as_writer.new.seat.me (Mark c.args.i) 0 tt c.requires.allowed c.set_mark_unless_set_as_writer.ensures.acts c.set_mark_unless_set_as_writer.ensures.noted
