use Rattle.std.proofs.Common.{ℕ, ◌≡◌, ◌<◌, length, slice_index_or}
use Rattle.mc_load.specs.Loads.{AreTrue, history_after}
use Rattle.mc_load.specs.Inside.Handles.{AreAllTold}
use Rattle.mc_load.specs.Inside.Parted.{AreFirst, AreRest}
use Rattle.mc_load.specs.Inside.Workers.{AreReadersOf}
use Rattle.mc_load.specs.declared.reader_thread.ReaderThread.{ReaderThread}
use Rattle.mc_load.proofs.summing.check_readers.Given as goal

abbrev pub invariant-loop-thread : goal.invariant-loop-thread
invariant-loop-thread g l = record {
  writer : l.writer ≡ l.fn.writer;
  readers : AreReadersOf l.fn.writer.of l.reader_threads.items;
  all : (n : ℕ) (d : ReaderThread g.row.V) → n < length l.reader_threads.items → AreAllTold g.row.V (slice_index_or l.reader_threads.items n d).handle (slice_index_or l.reader_threads.items n d).records.items;
  wrong : l.wrong ≡ 0;
  front : AreFirst l.reader_threads.items l.fn.reader_threads.items;
  told : AreRest (λ (k : ReaderThread g.row.V). AreTrue (history_after g.row.V l.fn.writer.of.layout.shape l.fn.writer.acts) k.records.items) l.reader_threads.items l.fn.reader_threads.items;
}

abbrev pub decreases-loop-thread : goal.decreases-loop-thread
decreases-loop-thread g l = length l.reader_threads.items
