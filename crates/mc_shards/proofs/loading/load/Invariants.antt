use Rattle.std.proofs.Common.{◌≡◌, map, take}
use Rattle.std.specs.List.{All}
use Rattle.mc_shards.proofs.LoadedShards.{IsWide}
use Rattle.mc_shards.specs.Loadings.{ShardsLoad}
use Rattle.mc_shards.proofs.loading.load.Given as goal

abbrev pub invariant-loop-index : goal.invariant-loop-index
invariant-loop-index g l = record {
  of : map (λ w. w.of) l.writers.items ≡ l.caches.items;
  wide : All (IsWide g.row.V) (take l.index l.entries);
  loaded : ShardsLoad g.row.V l.shape l.fn.writers.items 0 (take l.index l.entries) l.writers.items l.left.items;
}
