use Rattle.std.proofs.Common.{arith}
use Rattle.mc_shards.proofs.LentWriters.{takes_writer}
use Rattle.mc_shards.proofs.lending.take.Goals as goal

pub compare_exchange-requires : goal.compare_exchange-requires
compare_exchange-requires g c =
    let seat = c.load_new_seat-found.result.1 in
    let came = c.load_new_seat-found.ensures in
    (came.0, omega (arith, c.requires.sized.0), takes_writer g.row.V c.args.shared.now.table_id.slots seat.id c.args.shared.now.key seat.me came.2 came.1)
