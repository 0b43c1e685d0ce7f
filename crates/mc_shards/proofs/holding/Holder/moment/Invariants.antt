use Rattle.std.proofs.Common.{◌≡◌, ◌≤◌, drop, length, min}
use Rattle.mc_shards.specs.Counted.{changes_in_all}
use Rattle.mc_shards.specs.Holding.{histories}
use Rattle.mc_shards.proofs.holding.Holder.moment.Given as goal

abbrev pub invariant-loop-left : goal.invariant-loop-left
invariant-loop-left g l = record {
  same : l.self ≡ l.fn.self;
  few : l.left ≤ length l.shards.tables;
  changes : l.changes ≡ min (changes_in_all (drop l.left (histories g.row.V l.fn.self))) 18446744073709551615;
}

abbrev pub decreases-loop-left : goal.decreases-loop-left
decreases-loop-left g l = l.left
