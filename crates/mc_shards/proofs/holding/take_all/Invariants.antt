use Rattle.std.proofs.Common.{◌≡◌, ◌≤◌, length, vec_capacity}
use Rattle.mc_shards.specs.Inside.Held.{HaveTaken}
use Rattle.mc_shards.proofs.holding.take_all.Given as goal

abbrev pub invariant-loop-n : goal.invariant-loop-n
invariant-loop-n g l = record {
  taken : HaveTaken g.row.V l.shards.locks l.turns.items;
  many : length l.turns.items ≡ l.n;
  room : 256 ≤ vec_capacity l.turns;
}
