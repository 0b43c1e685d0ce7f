use Rattle.std.proofs.Common.{◌≡◌, ◌+◌, length}
use Rattle.std.specs.Prelude.{All}
use Rattle.mc_shards.specs.Sharded.{ArePassOf}
use Rattle.mc_load.specs.Inside.Handles.{place_of}
use Rattle.mc_load.specs.declared.handle.Handle.{Handle}
use Rattle.mc_load.proofs.handles.shard_handles.Given as goal

abbrev pub invariant-loop-pass : goal.invariant-loop-pass
invariant-loop-pass g l = record {
  many : length l.handles.items + length l.passes.items ≡ length l.fn.passes.items;
  of : All (ArePassOf l.fn.shards) l.passes.items;
  place : All (λ (h : Handle g.row.V). place_of h ≡ l.fn.shards) l.handles.items;
}

abbrev pub decreases-loop-pass : goal.decreases-loop-pass
decreases-loop-pass g l = length l.passes.items
