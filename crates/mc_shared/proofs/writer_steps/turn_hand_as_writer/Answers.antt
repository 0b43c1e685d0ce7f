use Rattle.std.proofs.Common.{◌≡◌, ℕ, ◌-◌, ◌*◌, ◌%◌, ◌^◌, ap, refl, ◌∙◌}
use Rattle.std.specs.Int.{bit_at}
use Rattle.std.proofs.lemmas.Nat.Bits.{shr_and_one}
use Rattle.mc_theory.specs.declared.act.Act.TheVariants.{Hand}
use Rattle.mc_shared.specs.Records.{Opening}
use Rattle.mc_shared.specs.Inside.Steps.{all_but}
use Rattle.mc_shared.specs.Inside.Seats.{MayMake}
use Rattle.mc_shared.specs.Views.{acts_of}
use Rattle.mc_shared.proofs.WrittenPlaces.{place_below}
use Rattle.mc_shared.proofs.PackedBits.{shifted}
use Rattle.mc_shared.proofs.EachStep.{hands_as}
use Rattle.mc_shared.proofs.SeatSteps.{take_is, note_of}
use Rattle.mc_shared.proofs.writer_steps.turn_hand_as_writer.Goals as goal

pub fetch_and-found-requires-clause-of : goal.fetch_and-found-requires-clause-of
fetch_and-found-requires-clause-of g c = ap (λ (o : Opening). o.table) c.requires.of

pub fetch_and-found-requires-clause-place : goal.fetch_and-found-requires-clause-place
fetch_and-found-requires-clause-place g c = place_below c.args.ruled.now.layout (acts_of c.args.seat.now.me.0) (Hand c.args.item) c.args.place (all_but c.args.item) c.requires.may (c.requires.place, refl)

pub fetch_and-found-requires-clause-allowed : goal.fetch_and-found-requires-clause-allowed
fetch_and-found-requires-clause-allowed g c =
    let l = c.args.ruled.now.layout in
    let acts = acts_of c.args.seat.now.me.0 in
    let item : ℕ = c.args.item in
    let may : MayMake l acts (Hand item) = c.requires.may in
    let mask : 2 ^ 64 - 1 - (1 * 2 ^ c.args.bit % 2 ^ 64) ≡ all_but item = ap (λ (z : ℕ). 2 ^ 64 - 1 - z) (shifted c.args.bit c.requires.bit.1 ∙ ap (λ (b : ℕ). 2 ^ b) c.requires.bit.0) in
    hands_as _ _ refl _ _ _ c.requires.seat g.J.NamesAct.act item c.args.place _ c.requires.act may mask c.requires.place

pub returns-clause-acts : goal.returns-clause-acts
returns-clause-acts g c =
    take_is c.args.ruled.now.layout c.args.seat.now.me _ g.J.NamesAct.act c.args.item c.fetch_and-found.result _ c.requires.act (shr_and_one c.fetch_and-found.result c.args.bit ∙ ap (λ (b : ℕ). bit_at c.fetch_and-found.result b) c.requires.bit.0) c.requires.seat c.fetch_and-found.ensures.told.2

pub returns-clause-noted : goal.returns-clause-noted
returns-clause-noted g c = note_of g.J.NamesAct.act c.args.seat.now.me _ _ c.fetch_and-found.ensures.told.2
