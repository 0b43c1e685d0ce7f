use Rattle.std.specs.Prelude.{All}
use Rattle.mc_shards.specs.Inside.Targets.{IsTarget}
use Rattle.mc_shards.proofs.shards.Shards.target_each.Given as goal

abbrev pub invariant-loop-i : goal.invariant-loop-i
invariant-loop-i g l = All (IsTarget g.row.V l.self) l.targets
