use Rattle.std.proofs.Common.{arith}
use Rattle.mc_shared.proofs.SeatSteps.{close_at, close_fits, after_close}
use Rattle.mc_shared.proofs.writer_calls.close_deed.Goals as goal

pub overflow_add-count : goal.overflow_add-count
overflow_add-count g c = omega (arith, close_fits c.writer.invariant c.writer.view_is c.cells.view_is c.cells.invariant.0 c.requires.of c.args.running c.requires.allowed c.requires.running)

pub store_as_writer-requires-clause-writes : goal.store_as_writer-requires-clause-writes
store_as_writer-requires-clause-writes g c = close_at c.writer.invariant c.writer.view_is c.cells.view_is c.cells.invariant.0 c.requires.of c.args.running c.requires.allowed c.requires.running

pub invariant_of-writer : goal.invariant_of-writer
invariant_of-writer g c =
    after_close c.writer.invariant c.writer.view_is c.cells.view_is c.cells.invariant.0 c.requires.of c.store_as_writer.new.seat.me 0 c.requires.allowed c.store_as_writer.ensures.acts c.store_as_writer.ensures.noted
