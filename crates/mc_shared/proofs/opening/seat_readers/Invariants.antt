use Rattle.std.proofs.Common.{◌≡◌, []}
use Rattle.mc_shared.specs.Records.{new_readers}
use Rattle.mc_shared.specs.Views.{writer_view, tally_for}
use Rattle.mc_shared.proofs.opening.seat_readers.Given as goal

abbrev pub invariant-loop-i : goal.invariant-loop-i
invariant-loop-i l = record {
  table : l.seat.table_id ≡ l.fn.seat.table_id;
  id : l.seat.id ≡ l.fn.seat.id;
  me : l.seat.me ≡ (writer_view l.ruled.layout [] (tally_for l._i), []);
  seats : l.seats.items ≡ new_readers l.ruled l._i;
}
