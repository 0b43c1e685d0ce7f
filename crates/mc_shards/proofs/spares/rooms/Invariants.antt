use Rattle.std.proofs.Common.{◌≡◌, ◌≤◌, [], length, vec_capacity}
use Rattle.std.specs.List.{All}
use Rattle.mc_shards.proofs.spares.rooms.Given as goal

abbrev pub invariant-loop-n : goal.invariant-loop-n
invariant-loop-n g l = record {
  many : length l.lists.items ≡ l.n;
  empty : All (λ list. (list.items ≡ []) × (l.readers ≤ vec_capacity list)) l.lists.items;
}
