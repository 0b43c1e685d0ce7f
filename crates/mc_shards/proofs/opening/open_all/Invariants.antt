use Rattle.std.proofs.Common.{◌≡◌, ◌-◌, length}
use Rattle.std.specs.List.{All, AllZip}
use Rattle.mc_shared.specs.Views.{layout_with}
use Rattle.mc_shards.specs.Inside.Dealt.{AreDealt}
use Rattle.mc_shards.specs.Loadings.{new_writers}
use Rattle.mc_shards.proofs.opening.open_all.Given as goal

abbrev pub invariant-loop-shard : goal.invariant-loop-shard
invariant-loop-shard g l = record {
  count : length l.caches.items ≡ l.shard;
  shapes : All (λ o. o.layout ≡ layout_with g.row.V l.policy l.shape) l.caches.items;
  writers : l.writers.items ≡ new_writers l.caches.items;
  many : length l.given.items ≡ l.passes;
  dealt : All (AreDealt l.caches.items) l.given.items;
  lists : AllZip (λ o list. (length list.items ≡ l.all - l.passes) × All (λ r. r.of ≡ o) list.items) l.caches.items l.lists.items;
}
