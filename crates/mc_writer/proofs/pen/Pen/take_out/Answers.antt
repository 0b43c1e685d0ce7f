use Rattle.std.proofs.Common.{arith, [], ◌∷◌}
use Rattle.mc_theory.specs.declared.act.Act.TheVariants as act
use Rattle.mc_writer.proofs.Pens.{first_due, made_then, rest_due}
use Rattle.mc_writer.proofs.RunningDeeds.{still_running}
use Rattle.mc_writer.proofs.pen.Pen.take_out.Goals as goal

pub open_deed-running-requires : goal.open_deed-running-requires
open_deed-running-requires g c =
    (omega arith, (first_due g.row.V (act.Open c.args.key c.args.deed ∷ []) _ _ c.requires.due, c.requires.parts))

pub write_slot-requires : goal.write_slot-requires
write_slot-requires g c =
    let d1 = rest_due _ c.open_deed-running.ensures.made c.requires.due in
    (omega arith, first_due g.row.V (act.Slot c.args.place 0 ∷ []) _ _ d1)

pub count_moment-requires : goal.count_moment-requires
count_moment-requires g c =
    let d1 = rest_due _ c.open_deed-running.ensures.made c.requires.due in
    let d2 = rest_due _ c.write_slot.ensures.made d1 in
    (omega arith, first_due g.row.V (act.Moment ∷ []) _ _ d2)

pub close_deed-requires : goal.close_deed-requires
close_deed-requires g c =
    let d1 = rest_due _ c.open_deed-running.ensures.made c.requires.due in
    let d2 = rest_due (act.Moment ∷ act.Close ∷ []) c.write_slot.ensures.made d1 in
    let d3 = rest_due (act.Close ∷ []) c.count_moment.ensures.made d2 in
    let r1 = still_running (act.Moment ∷ act.Close ∷ []) _ (tt, tt) d1 c.write_slot.ensures.made c.open_deed-running.ensures.running in
    let r2 = still_running (act.Close ∷ []) _ (tt, tt) d2 c.count_moment.ensures.made r1 in
    (omega arith, (first_due g.row.V (act.Close ∷ []) _ _ d3, r2))

pub returns : goal.returns
returns g c = record { made = made_then c.open_deed-running.ensures.made (made_then c.write_slot.ensures.made (made_then c.count_moment.ensures.made c.close_deed.ensures.made)) }
