use Rattle.cefrodil.specs.Inside.Filling.{HasPassesTo}
use Rattle.cefrodil.proofs.opening.fill_each.Given as goal

abbrev pub invariant-loop-handle : goal.invariant-loop-handle
invariant-loop-handle l = HasPassesTo l.fn.rest l.rest l.handles l.handle-index
