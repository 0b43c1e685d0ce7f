use Rattle.std.proofs.Common.{◌≡◌, ◌≤◌, length, map, take, vec_capacity}
use Rattle.std.specs.List.{AllZip}
use Rattle.mc_shards.proofs.Spared.{ArePopped, OfTable}
use Rattle.mc_shards.proofs.spares.Spares.next.Given as goal

abbrev pub invariant-loop-n : goal.invariant-loop-n
invariant-loop-n g l = record {
  of : AllZip OfTable l.shards.tables l.self.lists.items;
  popped : ArePopped l.n l.fn.self.count l.self.lists.items;
  count : l.self.count ≡ l.fn.self.count;
  many : length l.room.items ≡ l.n;
  room : length l.shards.tables ≤ vec_capacity l.room;
  pass : map (λ r. r.of) l.room.items ≡ take l.n l.shards.tables;
}
