use Rattle.std.proofs.Common.{arith, ◌+◌, [], ◌∷◌, ◌++◌, ◌∙◌, subst, sym}
use Rattle.mc_theory.specs.declared.act.Act.TheVariants.{Moment}
use Rattle.mc_shared.specs.Steps.{SeatView}
use Rattle.mc_shared.specs.Inside.Steps.{WritesAt, AddsNote}
use Rattle.mc_shared.specs.Views.{writer_view, acts_of, tally_of, with_bit}
use Rattle.mc_shared.proofs.SeatSteps.{moment_fits, moment_at, after_moment}
use Rattle.mc_shared.proofs.writer_calls.count_moment.Goals as goal

pub overflow_add-at : goal.overflow_add-at
overflow_add-at g c =
    omega (arith, moment_fits c.writer.invariant c.writer.view_is c.cells.view_is c.cells.invariant.0 c.requires.of c.load_as_writer-at.result c.load_as_writer-at.ensures.word c.requires.allowed)

pub store_as_writer-requires-clause-writes : goal.store_as_writer-requires-clause-writes
store_as_writer-requires-clause-writes g c =
    let same = c.load_as_writer-at.ensures.seat.2 in
    subst (λ (m : SeatView). WritesAt c.cells.inside.ruled.layout (acts_of m.0) Moment 0 (c.load_as_writer-at.result + 1)) (sym same)
    (moment_at c.writer.invariant c.writer.view_is c.cells.view_is c.cells.invariant.0 c.requires.of c.load_as_writer-at.result c.load_as_writer-at.ensures.word)

pub invariant_of-writer : goal.invariant_of-writer
invariant_of-writer g c =
    let same = c.load_as_writer-at.ensures.seat.2 in
    after_moment c.writer.invariant c.writer.view_is c.cells.view_is c.cells.invariant.0 c.requires.of c.store_as_writer.new.seat.me 0 c.requires.allowed
    (c.store_as_writer.ensures.acts ∙ (λ i. (writer_view c.cells.inside.ruled.layout (acts_of (same i).0 ++ with_bit Moment 0 ∷ []) (tally_of c.store_as_writer.new.seat.me.0), [])))
    (subst (λ (m : SeatView). AddsNote m c.store_as_writer.new.seat.me) same c.store_as_writer.ensures.noted)
