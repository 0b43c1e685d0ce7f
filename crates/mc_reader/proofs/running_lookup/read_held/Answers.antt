use Rattle.mc_reader.proofs.Course.{leads_trans}
use Rattle.mc_reader.proofs.running_lookup.read_held.Goals as goal

pub returns-clause-leads : goal.returns-clause-leads
returns-clause-leads g c =
    leads_trans g.row.V c.args.cells.now.layout.shape c.args.seat.now c.read_value.new.seat c.read_stamp.new.seat c.args.lookup.now c.read_value.new.lookup c.read_stamp.new.lookup c.read_value.ensures.leads c.read_stamp.ensures.leads
