use Rattle.std.proofs.Common.{length}
use Rattle.std.specs.List.{All}
use Rattle.mc_shards.specs.Sharded.{ArePassOf}
use Rattle.thread_tests.proofs.shards.callers_of.Given as goal

abbrev pub invariant-loop-pass : goal.invariant-loop-pass
invariant-loop-pass l = record {
  passes : All (ArePassOf l.shards) l.passes.items;
  callers : All (λ k. ArePassOf l.shards k.pass) l.callers.items;
}

abbrev pub decreases-loop-pass : goal.decreases-loop-pass
decreases-loop-pass l = length l.passes.items
