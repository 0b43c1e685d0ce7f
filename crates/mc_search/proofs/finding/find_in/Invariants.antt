use Rattle.std.proofs.Common.{◌≡◌}
use Rattle.mc_words.specs.Checks.{shape_of}
use Rattle.mc_search.specs.Inside.Readable.{IsNotAmong}
use Rattle.mc_search.proofs.finding.find_in.Given as goal

abbrev pub invariant-loop-slot : goal.invariant-loop-slot
invariant-loop-slot g l = record {
  same : g.P.Peek.words l.peek ≡ g.P.Peek.words l.initial.peek;
  kept : l.peek ≡ l.initial.peek;
  none : IsNotAmong g.row.V (shape_of l.checked) (g.P.Peek.words l.initial.peek) l.key l.bucket l.slot;
}
