use Rattle.mc_shards.specs.Sharded.{ArePassOf}
use Rattle.thread_tests.proofs.shard_calls.call_each.Given as goal

abbrev pub invariant-loop-n : goal.invariant-loop-n
invariant-loop-n l = ArePassOf l.shards l.pass
