use Rattle.std.proofs.Common.{◌≡◌, arith, sym, subst, [], ◌∷◌}
use Rattle.mc_words.specs.Places.{item_place}
use Rattle.mc_words.specs.declared.shape.Shape.{Shape}
use Rattle.mc_theory.specs.declared.act.Act.TheVariants as act
use Rattle.mc_theory.specs.declared.act.Deed.TheVariants as deed
use Rattle.mc_plan.specs.Plans.{payload_acts}
use Rattle.mc_writer.proofs.Pens.{first_due, made_then, rest_due, shape_kept}
use Rattle.mc_writer.proofs.RunningDeeds.{inner_payload, still_running}
use Rattle.mc_writer.proofs.pen.Pen.renew.Goals as goal

pub open_deed-running-requires : goal.open_deed-running-requires
open_deed-running-requires g c = (omega arith, (first_due g.row.V (act.Open c.args.key deed.Renew ∷ []) _ _ c.requires.due, c.requires.parts))

pub write_payload-requires : goal.write_payload-requires
write_payload-requires g c =
    let d1 = rest_due _ c.open_deed-running.ensures.made c.requires.due in
    (omega arith, (omega (arith, c.requires.width), (c.requires.width, ((subst (λ (sh : Shape). c.items_start-items.result ≡ item_place g.row.V sh 0 0) (sym (shape_kept c.open_deed-running.ensures.made.same)) c.items_start-items.ensures.value, c.items_start-items.ensures.small), first_due g.row.V (payload_acts c.args.i c.args.value.now c.args.at) (act.Moment ∷ act.Close ∷ []) _ d1))))

pub count_moment-requires : goal.count_moment-requires
count_moment-requires g c =
    let d1 = rest_due _ c.open_deed-running.ensures.made c.requires.due in
    let d2 = rest_due (act.Moment ∷ act.Close ∷ []) c.write_payload.ensures.made d1 in
    (omega arith, first_due g.row.V (act.Moment ∷ []) _ _ d2)

pub close_deed-requires : goal.close_deed-requires
close_deed-requires g c =
    let d1 = rest_due _ c.open_deed-running.ensures.made c.requires.due in
    let d2 = rest_due (act.Moment ∷ act.Close ∷ []) c.write_payload.ensures.made d1 in
    let d3 = rest_due (act.Close ∷ []) c.count_moment.ensures.made d2 in
    let r1 = still_running (act.Moment ∷ act.Close ∷ []) _ (inner_payload c.args.i c.args.value.now c.args.at) d1 c.write_payload.ensures.made c.open_deed-running.ensures.running in
    let r2 = still_running (act.Close ∷ []) _ (tt, tt) d2 c.count_moment.ensures.made r1 in
    (omega arith, (first_due g.row.V (act.Close ∷ []) _ _ d3, r2))

pub returns : goal.returns
returns g c = record { made = made_then c.open_deed-running.ensures.made (made_then c.write_payload.ensures.made (made_then c.count_moment.ensures.made c.close_deed.ensures.made)) }
