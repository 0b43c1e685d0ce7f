use Rattle.std.proofs.Common.{ap, refl, sym, subst}
use mathlib.Core.Option.{none}
use Rattle.atomic_table.specs.Table.{step}
use Rattle.mc_theory.specs.declared.act.Act.{Act}
use Rattle.mc_shared.specs.Records.{Opening}
use Rattle.mc_shared.specs.Inside.Steps.{WritesAt, IsOffBits}
use Rattle.mc_shared.specs.Inside.Seats.{MayMake}
use Rattle.mc_shared.specs.Views.{acts_of}
use Rattle.mc_shared.proofs.WrittenPlaces.{place_below}
use Rattle.mc_shared.proofs.EachStep.{stores_as}
use Rattle.mc_shared.proofs.RecencySteps.{store_bits, store_past}
use Rattle.mc_shared.proofs.SeatSteps.{off_stored, put_is, note_of}
use Rattle.mc_shared.proofs.writer_steps.store_as_writer.Goals as goal

pub store-requires-clause-of : goal.store-requires-clause-of
store-requires-clause-of g c = ap (λ (o : Opening). o.table) c.requires.of

pub store-requires-clause-place : goal.store-requires-clause-place
store-requires-clause-place g c = place_below c.args.ruled.now.layout (acts_of c.args.seat.now.me.0) c.args.act c.args.place c.args.word c.requires.may c.requires.writes

pub store-requires-clause-allowed : goal.store-requires-clause-allowed
store-requires-clause-allowed g c =
    let l = c.args.ruled.now.layout in
    let acts = acts_of c.args.seat.now.me.0 in
    let a = g.J.NamesAct.act in
    let may : MayMake l acts a = subst (MayMake l acts) (sym c.requires.act) c.requires.may in
    let writes : WritesAt l acts a c.args.place c.args.word = subst (λ (b : Act). WritesAt l acts b c.args.place c.args.word) (sym c.requires.act) c.requires.writes in
    let off : IsOffBits a = subst IsOffBits (sym c.requires.act) c.requires.low in
    stores_as _ _ refl _ _ _ c.requires.seat a c.args.place c.args.word (λ _. c.args.word) (λ _. c.args.word) (step 0 c.args.place c.args.word 0 none) (off_stored a off) may writes (λ _. refl) (store_bits l acts a c.args.place c.args.word (λ _. c.args.word) off may writes) (store_past l acts a c.args.place c.args.word off may writes)

pub returns-clause-acts : goal.returns-clause-acts
returns-clause-acts g c = put_is c.args.ruled.now.layout c.args.seat.now.me _ g.J.NamesAct.act c.args.act c.args.word c.requires.act c.requires.low c.requires.seat c.store.ensures.told.1

pub returns-clause-noted : goal.returns-clause-noted
returns-clause-noted g c = note_of g.J.NamesAct.act c.args.seat.now.me _ _ c.store.ensures.told.1
