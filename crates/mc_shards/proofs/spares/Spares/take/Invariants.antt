use Rattle.std.proofs.Common.{ℕ, ◌≡◌, ◌+◌, ◌<◌, ◌≤◌, [], get_or, length, vec_capacity}
use Rattle.std.specs.List.{All}
use Rattle.mc_shards.specs.Sharded.{ArePassOf}
use Rattle.mc_shards.specs.Spares.{AreSparesOf}
use Rattle.mc_shards.proofs.spares.Spares.take.Given as goal

abbrev pub invariant-loop-n : goal.invariant-loop-n
invariant-loop-n g l = record {
  of : AreSparesOf l.shards l.self;
  count : l.self.count + l.n ≡ l.fn.self.count;
  many : length l.given.items ≡ l.many;
  left : length l.rooms.items + l.n ≡ l.many;
  empty : All (λ list. (list.items ≡ []) × (length l.shards.tables ≤ vec_capacity list)) l.rooms.items;
  given : (k : ℕ) → k < l.n → ArePassOf l.shards (get_or l.given.items k []);
}
