use Rattle.std.proofs.Common.{◌≡◌, ◌+◌, length}
use Rattle.std.specs.Prelude.{All}
use Rattle.mc_shared.specs.Records.{ReaderRecord}
use Rattle.mc_load.specs.Inside.Handles.{place_of}
use Rattle.mc_load.specs.Lookups.{one_shard}
use Rattle.mc_load.specs.declared.handle.Handle.{Handle}
use Rattle.mc_load.proofs.handles.desk_handles.Given as goal

abbrev pub invariant-loop-pass : goal.invariant-loop-pass
invariant-loop-pass g l = record {
  many : length l.handles.items + length l.readers.items ≡ length l.fn.readers.items;
  of : All (λ (r : ReaderRecord). r.of ≡ l.fn.cache) l.readers.items;
  place : All (λ (h : Handle g.row.V). place_of h ≡ one_shard l.fn.cache) l.handles.items;
}

abbrev pub decreases-loop-pass : goal.decreases-loop-pass
decreases-loop-pass g l = length l.readers.items
