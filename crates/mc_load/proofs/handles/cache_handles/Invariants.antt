use Rattle.std.proofs.Common.{◌≡◌, ◌+◌, Some, length}
use Rattle.std.specs.Prelude.{All}
use Rattle.mc_shared.specs.Records.{ReaderRecord}
use Rattle.mc_load.specs.Inside.Handles.{cache_of}
use Rattle.mc_load.specs.declared.handle.Handle.{Handle}
use Rattle.mc_load.proofs.handles.cache_handles.Given as goal

abbrev pub invariant-loop-reader : goal.invariant-loop-reader
invariant-loop-reader g l = record {
  many : length l.handles.items + length l.readers.items ≡ length l.fn.readers.items;
  of : All (λ (r : ReaderRecord). r.of ≡ l.fn.cache) l.readers.items;
  cache : All (λ (h : Handle g.row.V). cache_of h ≡ Some l.fn.cache) l.handles.items;
}

abbrev pub decreases-loop-reader : goal.decreases-loop-reader
decreases-loop-reader g l = length l.readers.items
