use Rattle.mc_shards.specs.Sharded.{ArePassOf}
use Rattle.mcbench.proofs.shards.fill.Given as goal

abbrev pub invariant-loop-n : goal.invariant-loop-n
invariant-loop-n l = ArePassOf l.shards l.pass
