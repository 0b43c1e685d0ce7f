use Rattle.std.proofs.Common.{ℕ, ◌≡◌, ◌*◌, ◌<◌, ◌≤◌}
use Rattle.mc_search.specs.ItemSets.{bit_in}
use Rattle.mc_search.proofs.item_set.ItemSet.next_from.Given as goal

abbrev pub invariant-words : goal.invariant-words
invariant-words l = (j : ℕ) → l.from ≤ j → j < l.next * 64 → bit_in l.self j ≡ 0
