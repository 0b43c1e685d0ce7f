use Rattle.std.proofs.Common.{[], refl, ap, ◌∙◌}
use Rattle.mc_shared.specs.Views.{writer_view, tally_for}
use Rattle.mc_shared.specs.declared.layout.Layout.{Layout}
use Rattle.mc_shared.specs.Steps.{SeatView}
use Rattle.mc_shared.proofs.WriterSeats.{new_writer}
use Rattle.mc_shared.proofs.opening.open_words.Goals as goal

pub invariant_of-writer : goal.invariant_of-writer
invariant_of-writer c =
    let seats : Layout → SeatView = λ l. (writer_view l [] (tally_for c.args.readers), []) in
    new_writer c.args.layout _ (tally_for c.args.readers) refl (c.in_ok-seats.ensures.me ∙ ap seats c.in_ok-ruled.ensures.ruled) c.requires.shape.0
