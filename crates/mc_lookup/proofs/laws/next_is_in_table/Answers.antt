use Rattle.mc_lookup.proofs.NextAccess.{next_is_in_table}
use Rattle.mc_lookup.proofs.laws.next_is_in_table.Goals as goal

pub returns : goal.returns
returns g c = next_is_in_table g.row.V
