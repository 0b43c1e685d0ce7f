use Rattle.std.proofs.Common.{ℕ, ◌≡◌, ◌<◌, [], get_or, length, map}
use Rattle.std.specs.List.{All}
use Rattle.mc_shards.specs.Loadings.{HaveMet}
use Rattle.mc_shards.proofs.loading.meet_all.Given as goal

abbrev pub invariant-loop-n : goal.invariant-loop-n
invariant-loop-n g l = record {
  writers : l.writers.items ≡ l.fn.writers.items;
  many : length l.passes.items ≡ length l.fn.passes.items;
  passes : All (λ rs. map (λ r. r.of) rs ≡ l.caches.items) l.passes.items;
  met : (k : ℕ) → k < l.n → HaveMet l.fn.writers.items (get_or l.passes.items k []);
}
