use Rattle.std.proofs.Common.{◌≡◌, length}
use Rattle.mc_shards.specs.Sharded.{Sharded}
use Rattle.mc_load.specs.Inside.Handles.{place_of}
use Rattle.mc_load.specs.Inside.Lasts.{AreLasts}
use Rattle.mc_load.proofs.lasts.last_moments.Given as goal

abbrev pub invariant-loop-n : goal.invariant-loop-n
invariant-loop-n g l = record {
  place : place_of l.handle ≡ place_of l.initial.handle;
  lasts : (s : Sharded) → s.shape ≡ l.fn.load.shape → length s.tables ≡ l.fn.shards → place_of l.initial.handle ≡ s → AreLasts g.row.V s l.fn.load.shape.mix l.fn.shards l.lasts;
}
