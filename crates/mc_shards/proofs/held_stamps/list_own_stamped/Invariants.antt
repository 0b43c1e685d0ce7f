use Rattle.std.proofs.Common.{◌≡◌, ◌++◌}
use Rattle.mc_shards.specs.Inside.Listed.{own_stamped_of}
use Rattle.mc_shards.proofs.held_stamps.list_own_stamped.Given as goal

abbrev pub invariant-loop-entry : goal.invariant-loop-entry
invariant-loop-entry g l = l.all.items ≡ l.fn.all.items ++ own_stamped_of l.mix l.many l.shard l.yielded
