use Rattle.std.proofs.Common.{ℕ, ◌≡◌, ◌<◌, ◌≤◌, length}
use Rattle.mc_words.specs.Checks.{shape_of}
use Rattle.mc_words.specs.Places.{word_count}
use Rattle.mc_search.specs.Readable.{IsPlacedAt}
use Rattle.tests.proofs.finding.is_placed.Given as goal

abbrev pub invariant-loop-q : goal.invariant-loop-q
invariant-loop-q l = record {
  same : l.table.list ≡ l.initial.table.list;
  long : word_count 1 (shape_of l.checked) ≤ length l.initial.table.list;
  placed : (p : ℕ) → p < l.q → IsPlacedAt 1 (shape_of l.checked) l.initial.table.list l.key p;
}
