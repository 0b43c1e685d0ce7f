use Rattle.std.proofs.Common.{refl}
use Rattle.mc_theory.specs.declared.access.Access.TheVariants as access
use Rattle.mc_reader.proofs.Course.{leads_on, leads_self}
use Rattle.mc_reader.proofs.running_lookup.read_stamp.Goals as goal

pub returns-clause-leads : goal.returns-clause-leads
returns-clause-leads g c =
    let V = g.row.V in
    let sh = c.args.cells.now.layout.shape in
    leads_on V sh c.args.seat.now c.args.seat.now c.read_at-word.new.reader c.args.lookup.now c.args.lookup.now c.after_stamp.new.self (access.Stamp c.args.i) (access.Stamp c.args.i) c.read_at-word.result
    (leads_self V sh c.args.seat.now c.args.lookup.now) c.read_at-word.ensures.of c.read_at-word.ensures.number c.read_at-word.ensures.one refl c.after_stamp.ensures.takes
