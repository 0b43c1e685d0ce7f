use Rattle.std.proofs.Common.{ℕ, ◌≡◌, ◌<◌, slice_index_or, vec_capacity}
use Rattle.mc_load.specs.Loads.{AreTrue}
use Rattle.mc_load.specs.ShardLoads.{answers_in}
use Rattle.mc_load.specs.declared.reader_thread.ReaderThread.{ReaderThread}
use Rattle.mc_load.proofs.checking.wrong_answers.Given as goal

abbrev pub invariant-loop-n : goal.invariant-loop-n
invariant-loop-n g l = record {
  capacity : vec_capacity l.told ≡ vec_capacity l.fn.told;
  right : l.wrong ≡ 0 → (k : ℕ) (d : ReaderThread g.row.V) → k < l.n → AreTrue l.fn.checker (answers_in l.fn.share.mix l.fn.share.shards l.fn.share.shard (slice_index_or l.fn.reader_threads k d).records.items);
}
