use Rattle.std.specs.Prelude.{slice_get}
use Rattle.std.proofs.Common.{ℕ, ◌≡◌, ◌<◌, ◌≤◌, [], get_or, map, vec_capacity}
use Rattle.mc_cache.specs.Plain.{Begins, history}
use Rattle.mc_shards.specs.Inside.Held.{writers_of}
use Rattle.mc_shards.specs.Plain.{seens}
use Rattle.mc_shards.specs.Sharded.{ArePassOf}
use Rattle.mc_shards.proofs.holding.meet.Given as goal

abbrev pub invariant-loop-n : goal.invariant-loop-n
invariant-loop-n g l = record {
  items : l.turns.items ≡ l.fn.turns.items;
  room : vec_capacity l.turns ≡ vec_capacity l.fn.turns;
  of : ArePassOf l.shards l.readers.items;
  left : (k : ℕ) → l.n ≤ k → slice_get l.readers.items k ≡ slice_get l.fn.readers.items k;
  met : (k : ℕ) → k < l.n → get_or (map (λ r. r.front) l.readers.items) k [] ≡ get_or (map (λ w. w.acts) (writers_of l.fn.turns.items)) k [];
  begun : (k : ℕ) → k < l.n → Begins (get_or (seens g.row.V l.fn.readers.items) k []) (get_or (map (history g.row.V) (writers_of l.fn.turns.items)) k []);
}
