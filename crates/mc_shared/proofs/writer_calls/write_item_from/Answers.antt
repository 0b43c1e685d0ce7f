use Rattle.mc_theory.specs.declared.act.Act.TheVariants.{Item}
use Rattle.mc_shared.proofs.SeatSteps.{after_plain}
use Rattle.mc_shared.proofs.writer_calls.write_item_from.Goals as goal

pub invariant_of-writer : goal.invariant_of-writer
invariant_of-writer g c =
    after_plain c.writer.invariant c.writer.view_is c.cells.view_is c.cells.invariant.0 c.requires.of c.store_as_writer.new.seat.me (Item c.args.i c.args.j c.args.word) 0 tt c.requires.allowed c.store_as_writer.ensures.acts c.store_as_writer.ensures.noted
