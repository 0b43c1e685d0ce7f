use Rattle.std.proofs.Common.{◌≡◌, length, vec_capacity}
use Rattle.mc_shards.specs.Inside.Held.{HaveTaken}
use Rattle.mc_shards.proofs.holding.give_all.Given as goal

abbrev pub invariant-loop-turn : goal.invariant-loop-turn
invariant-loop-turn g l = record {
  taken : HaveTaken g.row.V l.shards.locks l.turns.items;
  room : vec_capacity l.turns ≡ vec_capacity l.fn.turns;
}

abbrev pub decreases-loop-turn : goal.decreases-loop-turn
decreases-loop-turn g l = length l.turns.items
