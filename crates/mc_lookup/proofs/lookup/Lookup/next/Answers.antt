use Rattle.mc_words.proofs.Keys.{stripe_of-lt}
use Rattle.mc_lookup.specs.Machine.{shape_for}
use Rattle.mc_lookup.specs.declared.stage.Stage.TheVariants.{Slot, Value}
use Rattle.mc_lookup.proofs.NextAccess.{next_at_in}
use Rattle.mc_lookup.proofs.lookup.Lookup.next.Goals as goal

pub returns-in-First-clause-range : goal.returns-in-First-clause-range
returns-in-First-clause-range g c =
    let l = c.args.self.now in
    rw l.parts_are.stripe (stripe_of-lt (shape_for l) l.key l.checked.sound)

pub returns-in-Slot-clause-range : goal.returns-in-Slot-clause-range
returns-in-Slot-clause-range g c = rw c.place.ensures (next_at_in {V = g.row.V} c.args.self.now (Slot c.in-Slot.j) c.in-Slot.is)

pub returns-in-Value-clause-range : goal.returns-in-Value-clause-range
returns-in-Value-clause-range g c = next_at_in {V = g.row.V} c.args.self.now (Value c.in-Value.i c.in-Value.count) c.in-Value.is
