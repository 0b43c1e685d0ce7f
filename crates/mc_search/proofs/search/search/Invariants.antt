use Rattle.std.proofs.Common.{◌≡◌, ℕ, ◌-◌, ◌≤◌, length, vec_capacity}
use Rattle.mc_words.specs.Checks.{shape_of}
use Rattle.mc_search.specs.Inside.Search.{IsQueue, AreFull, IsSearching}
use Rattle.mc_search.proofs.search.search.Given as goal

abbrev pub invariant-levels : goal.invariant-levels
invariant-levels g l = record {
  same : g.P.Peek.words l.peek ≡ g.P.Peek.words l.initial.peek;
  kept : l.peek ≡ l.initial.peek;
  queue : IsQueue l.queue.items l.seen.items;
  room : length l.seen.items ≤ vec_capacity l.queue;
  size : length l.seen.items ≡ (shape_of l.checked).buckets;
  full : AreFull (shape_of l.checked) (g.P.Peek.words l.initial.peek) l.queue.items;
  searching : (k : ℕ) → IsSearching (shape_of l.checked) (g.P.Peek.words l.initial.peek) k 0 l.initial.queue.items → IsSearching (shape_of l.checked) (g.P.Peek.words l.initial.peek) k l.front l.queue.items;
}

abbrev pub decreases-levels : goal.decreases-levels
decreases-levels g l = (shape_of l.checked).buckets - l.front
