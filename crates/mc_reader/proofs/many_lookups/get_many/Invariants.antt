use Rattle.std.proofs.Common.{◌≡◌, take}
use Rattle.mc_reader.specs.Records.{HaveLooked}
use Rattle.mc_reader.proofs.many_lookups.get_many.Given as goal

abbrev pub invariant-loop-i : goal.invariant-loop-i
invariant-loop-i g l = record {
  looked : HaveLooked g.row.V l.fn.cells.layout.shape (take l.i l.fn.keys) l.fn.seat l.seat (take l.i l.replies);
  of : l.seat.of ≡ l.fn.seat.of;
}
