use Rattle.std.proofs.Common.{◌≡◌, ℕ, ◌+◌, ◌<◌, get_or, length}
use Rattle.mc_words.specs.Places.{item}
use Rattle.mc_search.proofs.reading.value_at.Given as goal

abbrev pub invariant-loop-j : goal.invariant-loop-j
invariant-loop-j g l = record {
  many : length l.value ≡ g.row.V;
  read : (k : ℕ) → k < l.j → item g.row.V l.checked.shape (g.P.Peek.words l.initial.peek) l.item (k + 1) ≡ get_or l.value k 0;
  same : g.P.Peek.words l.peek ≡ g.P.Peek.words l.initial.peek;
  kept : l.peek ≡ l.initial.peek;
}
