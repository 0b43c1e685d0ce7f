use Rattle.std.proofs.Common.{◌≡◌}
use Rattle.mc_words.specs.Checks.{shape_of}
use Rattle.mc_search.specs.Inside.Readable.{HasNot}
use Rattle.mc_search.proofs.bucket.slot_with.Given as goal

abbrev pub invariant-loop-slot : goal.invariant-loop-slot
invariant-loop-slot g l = record {
  same : g.P.Peek.words l.peek ≡ g.P.Peek.words l.initial.peek;
  kept : l.peek ≡ l.initial.peek;
  none : HasNot (shape_of l.checked) (g.P.Peek.words l.initial.peek) l.bucket l.word l.slot;
}
