use Rattle.std.proofs.Common.{length}
use Rattle.std.specs.List.{All}
use Rattle.mc_shards.specs.Sharded.{ArePassOf}
use Rattle.mcbench.proofs.shards.callers_of.Given as goal

abbrev pub invariant-loop-pass : goal.invariant-loop-pass
invariant-loop-pass l = All (ArePassOf l.shards) l.passes.items

abbrev pub decreases-loop-pass : goal.decreases-loop-pass
decreases-loop-pass l = length l.passes.items
