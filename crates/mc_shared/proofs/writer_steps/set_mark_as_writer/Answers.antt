use Rattle.std.proofs.Common.{◌≡◌, ℕ, ◌*◌, ◌%◌, ◌^◌, ap, refl, ◌∙◌}
use Rattle.mc_theory.specs.declared.act.Act.TheVariants.{Mark}
use Rattle.mc_shared.specs.Records.{Opening}
use Rattle.mc_shared.specs.Inside.Steps.{only}
use Rattle.mc_shared.specs.Inside.Seats.{MayMake}
use Rattle.mc_shared.specs.Views.{acts_of}
use Rattle.mc_shared.proofs.WrittenPlaces.{place_below}
use Rattle.mc_shared.proofs.PackedBits.{shifted}
use Rattle.mc_shared.proofs.EachStep.{touches_as}
use Rattle.mc_shared.proofs.SeatSteps.{touch_is, note_of}
use Rattle.mc_shared.proofs.writer_steps.set_mark_as_writer.Goals as goal

pub fetch_or-requires-clause-of : goal.fetch_or-requires-clause-of
fetch_or-requires-clause-of g c = ap (λ (o : Opening). o.table) c.requires.of

pub fetch_or-requires-clause-place : goal.fetch_or-requires-clause-place
fetch_or-requires-clause-place g c = place_below c.args.ruled.now.layout (acts_of c.args.seat.now.me.0) (Mark c.args.item) c.args.place (only c.args.item) c.requires.may (c.requires.place, refl)

pub fetch_or-requires-clause-allowed : goal.fetch_or-requires-clause-allowed
fetch_or-requires-clause-allowed g c =
    let l = c.args.ruled.now.layout in
    let acts = acts_of c.args.seat.now.me.0 in
    let item : ℕ = c.args.item in
    let may : MayMake l acts (Mark item) = c.requires.may in
    let mask : 1 * 2 ^ c.args.bit % 2 ^ 64 ≡ only item = shifted c.args.bit c.requires.bit.1 ∙ ap (λ (b : ℕ). 2 ^ b) c.requires.bit.0 in
    touches_as _ _ refl _ _ _ c.requires.seat g.J.NamesAct.act item c.args.place _ c.requires.act may mask c.requires.place

pub returns-clause-acts : goal.returns-clause-acts
returns-clause-acts g c = touch_is c.args.ruled.now.layout c.args.seat.now.me _ g.J.NamesAct.act c.args.item c.fetch_or.result c.requires.act c.requires.seat c.fetch_or.ensures.told.1

pub returns-clause-noted : goal.returns-clause-noted
returns-clause-noted g c = note_of g.J.NamesAct.act c.args.seat.now.me _ _ c.fetch_or.ensures.told.1
