use Rattle.std.proofs.Common.{◌≡◌, ◌+◌, ◌≤◌, ◌++◌, take, vec_capacity, vec_len}
use Rattle.mc_load.specs.ShardLoads.{answers_in}
use Rattle.mc_load.proofs.checking.append_answers.Given as goal

abbrev pub invariant-loop-n : goal.invariant-loop-n
invariant-loop-n g l = record {
  len : vec_len l.told ≤ vec_len l.fn.told + l.n;
  capacity : vec_capacity l.told ≡ vec_capacity l.fn.told;
  items : l.told.items ≡ l.fn.told.items ++ answers_in l.fn.share.mix l.fn.share.shards l.fn.share.shard (take l.n l.fn.records);
}
