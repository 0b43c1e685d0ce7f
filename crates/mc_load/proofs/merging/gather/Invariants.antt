use Rattle.std.proofs.Common.{◌≡◌, ◌++◌, take, ◌*◌, ◌≤◌, vec_capacity, vec_len}
use Rattle.mc_load.specs.Turns.{journals_in}
use Rattle.mc_load.specs.Inside.Sums.{all_tries}
use Rattle.mc_load.proofs.merging.gather.Given as goal

abbrev pub invariant-loop-n : goal.invariant-loop-n
invariant-loop-n g l = record {
  len : vec_len l.all ≤ 2 * l.fn.load.writes * l.n;
  capacity : vec_capacity l.all ≡ vec_capacity l.fn.all;
  items : l.all.items ≡ l.fn.all.items ++ journals_in l.fn.share.mix l.fn.share.shards l.fn.share.shard (all_tries (take l.n l.fn.turn_threads));
}
