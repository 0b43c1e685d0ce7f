use Rattle.std.proofs.Common.{◌≡◌}
use Rattle.mc_cache.proofs.opening.seat_readers.Given as goal

abbrev pub invariant-loop-seat : goal.invariant-loop-seat
invariant-loop-seat g l = l.readers.items ≡ l.yielded
