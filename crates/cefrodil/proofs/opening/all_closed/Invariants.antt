use Rattle.std.specs.List.{AllWithin}
use Rattle.cefrodil.specs.Openings.{IsClosed}
use Rattle.cefrodil.proofs.opening.all_closed.Given as goal

abbrev pub invariant-loop-handle : goal.invariant-loop-handle
invariant-loop-handle l = AllWithin IsClosed l.handles 0 l.handle-index
