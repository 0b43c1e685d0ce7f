use Rattle.std.proofs.Common.{arith, ◌+◌, [], ◌∷◌, ◌++◌, refl, ap, sym, ◌∙◌, subst}
use Rattle.mc_words.specs.Places.{version_place}
use Rattle.mc_theory.specs.declared.act.Act.TheVariants.{Open}
use Rattle.mc_shared.specs.Steps.{SeatView}
use Rattle.mc_shared.specs.Inside.Steps.{WritesAt, AddsNote}
use Rattle.mc_shared.specs.Views.{writer_view, acts_of, tally_of, with_bit}
use Rattle.mc_shared.proofs.SeatSteps.{open_fits, open_at, after_open, opened_runs, acted_in}
use Rattle.mc_shared.proofs.writer_calls.open_deed_by.Goals as goal

pub overflow_add-count : goal.overflow_add-count
overflow_add-count g c =
    let here = c.version_place-place.ensures ∙ ap version_place c.requires.parts.stripe in
    omega (arith, open_fits c.writer.invariant c.writer.view_is c.cells.view_is c.cells.invariant.0 c.requires.of c.args.key c.args.deed c.version_place-place.result c.load_as_writer-count.result here c.load_as_writer-count.ensures.word c.requires.allowed)

pub store_as_writer-requires-clause-writes : goal.store_as_writer-requires-clause-writes
store_as_writer-requires-clause-writes g c =
    let here = c.version_place-place.ensures ∙ ap version_place c.requires.parts.stripe in
    let same = c.load_as_writer-count.ensures.seat.2 in
    subst (λ (m : SeatView). WritesAt c.cells.inside.ruled.layout (acts_of m.0) (Open c.args.key c.args.deed) c.version_place-place.result (c.load_as_writer-count.result + 1)) (sym same)
    (open_at c.writer.invariant c.writer.view_is c.cells.view_is c.cells.invariant.0 c.requires.of c.args.key c.args.deed c.version_place-place.result c.load_as_writer-count.result here c.load_as_writer-count.ensures.word)

pub invariant_of-writer : goal.invariant_of-writer
invariant_of-writer g c =
    let same = c.load_as_writer-count.ensures.seat.2 in
    after_open c.writer.invariant c.writer.view_is c.cells.view_is c.cells.invariant.0 c.requires.of c.store_as_writer.new.seat.me c.args.key c.args.deed 0 c.requires.allowed c.requires.limit
    (c.store_as_writer.ensures.acts ∙ (λ i. (writer_view c.cells.inside.ruled.layout (acts_of (same i).0 ++ with_bit (Open c.args.key c.args.deed) 0 ∷ []) (tally_of c.store_as_writer.new.seat.me.0), [])))
    (subst (λ (m : SeatView). AddsNote m c.store_as_writer.new.seat.me) same c.store_as_writer.ensures.noted)

pub returns-clause-running : goal.returns-clause-running
returns-clause-running g c =
    let here = c.version_place-place.ensures ∙ ap version_place c.requires.parts.stripe in
    let same = c.load_as_writer-count.ensures.seat.2 in
    opened_runs c.writer.invariant c.writer.view_is c.cells.view_is c.cells.invariant.0 c.requires.of _ c.args.key c.args.deed _ c.load_as_writer-count.result here c.load_as_writer-count.ensures.word refl
    (acted_in c.writer.invariant c.writer.view_is c.cells.view_is c.cells.invariant.0 c.requires.of c.store_as_writer.new.seat.table_id c.store_as_writer.new.seat.me _ (Open c.args.key c.args.deed) 0
    (c.store_as_writer.ensures.table.0 ∙ c.load_as_writer-count.ensures.seat.0) refl
    (c.store_as_writer.ensures.acts ∙ (λ i. (writer_view c.cells.inside.ruled.layout (acts_of (same i).0 ++ with_bit (Open c.args.key c.args.deed) 0 ∷ []) (tally_of c.store_as_writer.new.seat.me.0), [])))
    (subst (λ (m : SeatView). AddsNote m c.store_as_writer.new.seat.me) same c.store_as_writer.ensures.noted))
