use Rattle.std.proofs.Common.{◌≡◌, List, None}
use Rattle.mc_words.specs.Checks.{shape_of}
use Rattle.mc_words.specs.Standing.{Agrees}
use Rattle.mc_words.specs.declared.history.Change.{Change}
use Rattle.mc_cache.specs.Inside.StampedLists.{AreStampedBelow}
use Rattle.mc_cache.proofs.stamped.list_stamped.Given as goal

abbrev pub invariant-loop-item : goal.invariant-loop-item
invariant-loop-item g l = record {
  kept : l.peek ≡ l.fn.peek;
  entries : (h : List (Change g.row.V)) → Agrees g.row.V (shape_of l.fn.checked) (g.P.Peek.words l.fn.peek) None h → AreStampedBelow g.row.V (shape_of l.fn.checked) (g.P.Peek.words l.fn.peek) h l.item l.entries.items;
}
