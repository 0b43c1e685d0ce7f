use Rattle.std.proofs.Common.{ℕ, ◌≡◌, ◌<◌, ◌⊎◌}
use Rattle.mc_words.specs.Checks.{shape_of}
use Rattle.mc_words.specs.Places.{slot}
use Rattle.mc_words.specs.Standing.{NamesItem}
use Rattle.mc_search.specs.Readable.{HasSlots}
use Rattle.tests.proofs.table.is_readable.Given as goal

abbrev pub invariant-loop-q : goal.invariant-loop-q
invariant-loop-q l = record {
  same : l.table.list ≡ l.initial.table.list;
  long : HasSlots (shape_of l.checked) l.initial.table.list;
  filled : (p : ℕ) → p < l.q → (slot (shape_of l.checked) l.initial.table.list p ≡ 0) ⊎ ((i : ℕ) × NamesItem (shape_of l.checked) l.initial.table.list p i);
}
