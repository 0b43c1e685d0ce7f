use Rattle.std.proofs.Common.{◌≡◌, ◌+◌, ◌*◌, ◌≤◌, drop, length}
use Rattle.mc_shards.specs.Counted.{keys_in_all}
use Rattle.mc_shards.specs.Holding.{histories}
use Rattle.mc_shards.proofs.holding.Holder.len.Given as goal

abbrev pub invariant-loop-left : goal.invariant-loop-left
invariant-loop-left g l = record {
  same : l.self ≡ l.fn.self;
  few : l.left ≤ length l.shards.tables;
  many : l.many ≡ keys_in_all (drop l.left (histories g.row.V l.fn.self));
  room : l.many + l.shards.shape.items * l.left ≤ l.most;
}

abbrev pub decreases-loop-left : goal.decreases-loop-left
decreases-loop-left g l = l.left
