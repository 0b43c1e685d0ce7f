use Rattle.std.proofs.Common.{◌≡◌, ℕ, ◌+◌, ◌*◌, ◌≤◌, length, vec_capacity}
use Rattle.mc_words.specs.Checks.{shape_of}
use Rattle.mc_search.specs.Inside.Search.{IsQueue, AreFull, IsSearching, IsExpanding}
use Rattle.mc_search.proofs.search.expand.Given as goal

abbrev pub invariant-loop-slot : goal.invariant-loop-slot
invariant-loop-slot g l = record {
  same : g.P.Peek.words l.peek ≡ g.P.Peek.words l.initial.peek;
  kept : l.peek ≡ l.initial.peek;
  queue : IsQueue l.queue.items l.seen.items;
  room : length l.seen.items ≤ vec_capacity l.queue;
  size : length l.seen.items ≡ (shape_of l.checked).buckets;
  full : AreFull (shape_of l.checked) (g.P.Peek.words l.initial.peek) l.queue.items;
  expanding : (k : ℕ) → IsSearching (shape_of l.checked) (g.P.Peek.words l.initial.peek) k l.front l.initial.queue.items → IsExpanding (shape_of l.checked) (g.P.Peek.words l.initial.peek) k l.front l.entry (4 * l.front + l.slot) l.queue.items;
}
