use Rattle.std.proofs.Common.{ℕ, ◌≡◌, ◌<◌, None, slice_index_or}
use Rattle.mc_load.specs.declared.reader_thread.ReaderThread.{ReaderThread}
use Rattle.mc_load.proofs.refusing.refused_lookup.Given as goal

abbrev pub invariant-loop-n : goal.invariant-loop-n
invariant-loop-n g l = (k : ℕ) (d : ReaderThread g.row.V) → k < l.n → (slice_index_or l.fn.reader_threads k d).refused ≡ None
