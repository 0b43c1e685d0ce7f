use Rattle.std.proofs.Common.{ℕ, ◌≡◌, ◌<◌, ◌≤◌, [], get_or, map, vec_capacity}
use Rattle.mc_shards.proofs.loading.meet.Given as goal

abbrev pub invariant-loop-n : goal.invariant-loop-n
invariant-loop-n g l = record {
  writers : l.writers.items ≡ l.fn.writers.items;
  pass : map (λ r. r.of) l.pass-inside.readers.items ≡ l.caches.items;
  room : (l.pass-inside.room.items ≡ []) × (256 ≤ vec_capacity l.pass-inside.room);
  met : (k : ℕ) → k < l.n → get_or (map (λ r. r.front) l.pass-inside.readers.items) k [] ≡ get_or (map (λ w. w.acts) l.fn.writers.items) k [];
}
