use Rattle.std.proofs.Common.{◌≡◌, ◌++◌}
use Rattle.mc_shards.specs.Own.{own_of}
use Rattle.mc_shards.proofs.listing.list_own.Given as goal

abbrev pub invariant-loop-entry : goal.invariant-loop-entry
invariant-loop-entry g l = l.all.items ≡ l.fn.all.items ++ own_of l.mix l.many l.shard l.yielded
