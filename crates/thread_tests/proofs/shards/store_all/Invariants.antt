use Rattle.mc_shards.specs.Sharded.{ArePassOf}
use Rattle.thread_tests.proofs.shards.store_all.Given as goal

abbrev pub invariant-loop-key : goal.invariant-loop-key
invariant-loop-key l = ArePassOf l.shards l.pass
