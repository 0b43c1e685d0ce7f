use Rattle.std.proofs.Common.{◌≡◌, ◌+◌, ◌≤◌, ◌++◌, take, vec_capacity, vec_len}
use Rattle.mc_load.specs.Turns.{changes_in}
use Rattle.mc_load.proofs.merging.append.Given as goal

abbrev pub invariant-loop-n : goal.invariant-loop-n
invariant-loop-n g l = record {
  len : vec_len l.all ≤ vec_len l.fn.all + l.n;
  capacity : vec_capacity l.all ≡ vec_capacity l.fn.all;
  items : l.all.items ≡ l.fn.all.items ++ changes_in l.fn.share.mix l.fn.share.shards l.fn.share.shard (take l.n l.fn.journal);
}
