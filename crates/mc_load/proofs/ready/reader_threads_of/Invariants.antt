use Rattle.std.proofs.Common.{◌≡◌, ◌+◌, Some, length}
use Rattle.std.specs.Prelude.{All}
use Rattle.mc_shared.specs.Records.{Opening}
use Rattle.mc_shards.specs.Sharded.{Sharded}
use Rattle.mc_load.specs.Inside.Handles.{cache_of, place_of}
use Rattle.mc_load.specs.Inside.Workers.{AreReadersIn, AreReadersOf, AreReady}
use Rattle.mc_load.specs.declared.handle.Handle.{Handle}
use Rattle.mc_load.specs.declared.reader_thread.ReaderThread.{ReaderThread}
use Rattle.mc_load.proofs.ready.reader_threads_of.Given as goal

abbrev pub invariant-loop-handle : goal.invariant-loop-handle
invariant-loop-handle g l = record {
  many : length l.reader_threads.items + length l.handles.items ≡ l.fn.load.readers;
  many_keys : All (λ (x : ReaderThread g.row.V). x.many ≡ l.fn.many) l.reader_threads.items;
  ready : AreReady g.row.V l.fn.load l.reader_threads.items;
  rest : (o : Opening) → All (λ (h : Handle g.row.V). cache_of h ≡ Some o) l.fn.handles.items → All (λ (h : Handle g.row.V). cache_of h ≡ Some o) l.handles.items;
  of : (o : Opening) → All (λ (h : Handle g.row.V). cache_of h ≡ Some o) l.fn.handles.items → AreReadersOf o l.reader_threads.items;
  left : (s : Sharded) → All (λ (h : Handle g.row.V). place_of h ≡ s) l.fn.handles.items → All (λ (h : Handle g.row.V). place_of h ≡ s) l.handles.items;
  place : (s : Sharded) → All (λ (h : Handle g.row.V). place_of h ≡ s) l.fn.handles.items → AreReadersIn s l.reader_threads.items;
}

abbrev pub decreases-loop-handle : goal.decreases-loop-handle
decreases-loop-handle g l = length l.handles.items
