use Rattle.std.proofs.Common.{rules, arith}
use Rattle.mc_words.proofs.Payload.{value_fits}
use Rattle.mc_core.proofs.table.Table.read.Goals as goal

pub item-requires-in-Value : goal.item-requires-in-Value
item-requires-in-Value g c =
    let reads = rw c.in-Value.is at c.requires in
    (search rules, (reads.0, omega (arith, reads.2, value_fits g.row.V)))
