use Rattle.std.proofs.Common.{arith}
use Rattle.mc_shards.proofs.LentWriters.{gives_back}
use Rattle.mc_shards.proofs.lending.give.Goals as goal

pub store-requires : goal.store-requires
store-requires g c = (
  c.requires.turn.0,
  omega (arith, c.requires.sized.0),
  gives_back g.row.V c.args.shared.now.table_id.slots c.args.turn.seat.id c.args.shared.now.key c.args.turn.seat.me c.requires.sized.1 c.requires.turn.1 c.requires.turn.2,
)
