use Rattle.std.proofs.Common.{◌≡◌, ◌+◌, ◌++◌, take, vec_capacity, vec_len}
use Rattle.mc_load.specs.Dates.{changes_of}
use Rattle.mc_load.proofs.merging.write_history.Given as goal

abbrev pub invariant-loop-n : goal.invariant-loop-n
invariant-loop-n g l = record {
  len : vec_len l.history ≡ vec_len l.fn.history + l.n;
  capacity : vec_capacity l.history ≡ vec_capacity l.fn.history;
  items : l.history.items ≡ l.fn.history.items ++ changes_of (take l.n l.fn.all);
}
