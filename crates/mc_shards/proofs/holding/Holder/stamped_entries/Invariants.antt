use Rattle.std.proofs.Common.{◌≡◌, ◌≤◌, drop, length, map}
use Rattle.mc_words.specs.Shapes.{HasShards}
use Rattle.mc_cache.specs.Stamped.{pair_of}
use Rattle.mc_shards.specs.Inside.Listed.{AreListed}
use Rattle.mc_shards.specs.Holding.{histories}
use Rattle.mc_shards.proofs.StampedShards.{AreStamped}
use Rattle.mc_shards.proofs.holding.Holder.stamped_entries.Given as goal

abbrev pub invariant-loop-left : goal.invariant-loop-left
invariant-loop-left g l = record {
  same : l.self ≡ l.fn.self;
  few : l.left ≤ length l.shards.tables;
  many : HasShards (length l.shards.tables);
  listed : AreListed g.row.V l.shards.shape.mix (length l.shards.tables) l.left (drop l.left (histories g.row.V l.fn.self)) (map pair_of l.all.items);
  stamped : AreStamped g.row.V l.shards.shape.mix (histories g.row.V l.fn.self) l.all.items;
}

abbrev pub decreases-loop-left : goal.decreases-loop-left
decreases-loop-left g l = l.left
