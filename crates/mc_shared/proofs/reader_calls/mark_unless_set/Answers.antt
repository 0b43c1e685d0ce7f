use Rattle.std.proofs.Common.{ap, sym, ◌∙◌}
use Rattle.atomic_table.specs.declared.badge.Badge.{Badge}
use Rattle.mc_shared.specs.Views.{View}
use Rattle.mc_shared.specs.Steps.{SeatView}
use Rattle.mc_shared.specs.Inside.Seats.{view_of}
use Rattle.mc_shared.specs.Records.{Opening, ReaderRecord}
use Rattle.mc_shared.proofs.SeatViews.{marked_as}
use Rattle.mc_shared.proofs.reader_calls.mark_unless_set.Goals as goal

pub invariant_of-reader : goal.invariant_of-reader
invariant_of-reader g c =
    let seat = c.into_seat-seat.result in
    let same = ap (λ (b : Badge View). b.views) (sym c.replace.ensures.value) ∙ c.into_seat-seat.ensures.2 in
    let layout = ap (λ (v : View). v.layout) (sym (ap view_of same)) ∙ (ap (λ (r : ReaderRecord). r.of.layout) c.reader.view_is ∙ ap (λ (o : Opening). o.layout) (c.requires.of ∙ sym c.cells.view_is)) in
    marked_as c.cells.inside.ruled.layout _ _ seat.me.0 c.mark_unless_set_as_reader.new.seat.me.0 c.args.i c.reader.invariant same layout (ap (λ (m : SeatView). m.0) c.mark_unless_set_as_reader.ensures.one) c.into_badge.ensures.2
