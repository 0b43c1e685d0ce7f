use Rattle.std.proofs.Common.{ℕ, ◌≡◌, ◌<◌}
use Rattle.mc_words.specs.Checks.{shape_of}
use Rattle.mc_search.specs.Inside.Readable.{IsFull}
use Rattle.mc_search.specs.Inside.Search.{next_bucket}
use Rattle.mc_search.proofs.room.move_from.Given as goal

abbrev pub invariant-loop-slot : goal.invariant-loop-slot
invariant-loop-slot g l = record {
  same : g.P.Peek.words l.peek ≡ g.P.Peek.words l.initial.peek;
  kept : l.peek ≡ l.initial.peek;
  none : (j : ℕ) → j < l.slot → IsFull (shape_of l.checked) (g.P.Peek.words l.initial.peek) (next_bucket (shape_of l.checked) (g.P.Peek.words l.initial.peek) l.bucket j);
}
