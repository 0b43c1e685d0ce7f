use Rattle.std.proofs.Common.{ℕ, ◌≡◌, ◌<◌, get_or, length}
use Rattle.mc_load.specs.ShardLoads.{IsRightIn}
use Rattle.mc_load.specs.Inside.Seats.{CanAudit}
use Rattle.mc_load.specs.Inside.Sums.{all_tries}
use Rattle.mc_load.specs.Inside.Workers.{answers_of}
use Rattle.mc_load.proofs.turns_summing.check_all.Given as goal

abbrev pub invariant-loop-shard : goal.invariant-loop-shard
invariant-loop-shard g l = record {
  can : CanAudit g.row.V l.fn.load (length l.fn.turn_threads) l.audit;
  right : l.wrong ≡ 0 → (n : ℕ) → n < l.shard → IsRightIn l.fn.load.shape.mix l.fn.shards (all_tries l.fn.turn_threads) (answers_of l.fn.reader_threads) (get_or l.fn.lasts n 0) n;
}
