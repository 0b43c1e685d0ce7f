use Rattle.std.proofs.Common.{◌≡◌, ℕ, [], ◌∷◌, ◌++◌, ap, refl, sym, ◌∙◌, subst, arith}
use Rattle.std.specs.Int.{bit_at}
use Rattle.std.proofs.lemmas.Nat.Bits.{bit_at-lt}
use mathlib.Core.Option.{none}
use Rattle.atomic_table.specs.Table.{step}
use Rattle.mc_theory.specs.declared.act.Act.{Act}
use Rattle.mc_theory.specs.declared.act.Act.TheVariants.{Mark}
use Rattle.mc_words.specs.Recency.{recency_bit}
use Rattle.mc_shared.specs.Records.{Opening}
use Rattle.mc_shared.specs.Steps.{SeatView, item_bit}
use Rattle.mc_shared.specs.Inside.Steps.{only, AddsNote}
use Rattle.mc_shared.specs.Inside.Seats.{MayMake}
use Rattle.mc_shared.specs.Views.{writer_view, acts_of, tally_of, with_bit}
use Rattle.mc_shared.proofs.PackedBits.{bit_is}
use Rattle.mc_shared.proofs.WrittenPlaces.{place_below}
use Rattle.mc_shared.proofs.EachStep.{remarks_as}
use Rattle.mc_shared.proofs.SeatSteps.{touch_is, note_of}
use Rattle.mc_shared.proofs.writer_steps.set_mark_unless_set_as_writer.Goals as goal

pub load-found-requires-clause-of : goal.load-found-requires-clause-of
load-found-requires-clause-of g c = ap (λ (o : Opening). o.table) c.requires.of

pub load-found-requires-clause-place : goal.load-found-requires-clause-place
load-found-requires-clause-place g c = place_below c.args.ruled.now.layout (acts_of c.args.seat.now.me.0) (Mark c.args.item) c.args.place (only c.args.item) c.requires.may (c.requires.place, refl)

pub load-found-requires-clause-allowed : goal.load-found-requires-clause-allowed
load-found-requires-clause-allowed g c = remarks_as _ _ refl _ _ _ c.requires.seat g.J.NamesAct.act c.args.item _ (step 0 c.args.place 0 0 none) c.requires.act c.requires.may c.requires.place

-- the bit that the load found, as the play has it
found_is : (found bit item : ℕ) (a : Act) → a ≡ Mark item → bit ≡ recency_bit item → bit_at found (item_bit a) ≡ bit_at found (recency_bit item)
found_is found bit item a same here = ap (λ (b : Act). bit_at found (item_bit b)) same

pub set_mark_as_writer-requires-clause-seat : goal.set_mark_as_writer-requires-clause-seat
set_mark_as_writer-requires-clause-seat g c =
    let x = c.load-found.result in
    let still = c.load-found.ensures.told.1 (found_is x c.args.bit c.args.item g.J.NamesAct.act c.requires.act c.requires.bit.0 ∙ (bit_is x c.args.bit c.args.item c.args.item refl c.requires.bit.0 ∙ c.if-found-bit-eq0.true)) in
    subst (λ (m : SeatView). m ≡ (writer_view c.args.ruled.now.layout (acts_of m.0) (tally_of m.0), [])) (sym still) c.requires.seat

pub set_mark_as_writer-requires-clause-may : goal.set_mark_as_writer-requires-clause-may
set_mark_as_writer-requires-clause-may g c =
    let x = c.load-found.result in
    let still = c.load-found.ensures.told.1 (found_is x c.args.bit c.args.item g.J.NamesAct.act c.requires.act c.requires.bit.0 ∙ (bit_is x c.args.bit c.args.item c.args.item refl c.requires.bit.0 ∙ c.if-found-bit-eq0.true)) in
    subst (λ (m : SeatView). MayMake c.args.ruled.now.layout (acts_of m.0) (Mark c.args.item)) (sym still) c.requires.may

pub returns-then-found-bit-eq0-clause-acts : goal.returns-then-found-bit-eq0-clause-acts
returns-then-found-bit-eq0-clause-acts g c =
    let x = c.load-found.result in
    let still = c.load-found.ensures.told.1 (found_is x c.args.bit c.args.item g.J.NamesAct.act c.requires.act c.requires.bit.0 ∙ (bit_is x c.args.bit c.args.item c.args.item refl c.requires.bit.0 ∙ c.if-found-bit-eq0.true)) in
    subst (λ (m : SeatView). c.set_mark_as_writer.new.seat.me ≡ (writer_view c.args.ruled.now.layout (acts_of m.0 ++ with_bit (Mark c.args.item) 0 ∷ []) (tally_of c.set_mark_as_writer.new.seat.me.0), [])) still c.set_mark_as_writer.ensures.acts

pub returns-else-found-bit-eq0-clause-acts : goal.returns-else-found-bit-eq0-clause-acts
returns-else-found-bit-eq0-clause-acts g c =
    let x = c.load-found.result in
    let is = bit_is x c.args.bit c.args.item c.args.item refl c.requires.bit.0 in
    let set : bit_at x (recency_bit c.args.item) ≡ 1 = omega (arith, is, bit_at-lt x (recency_bit c.args.item), c.if-found-bit-eq0.false) in
    touch_is c.args.ruled.now.layout c.args.seat.now.me _ g.J.NamesAct.act c.args.item x c.requires.act c.requires.seat (c.load-found.ensures.told.0 (found_is x c.args.bit c.args.item g.J.NamesAct.act c.requires.act c.requires.bit.0 ∙ set)).1

pub returns-then-found-bit-eq0-clause-noted : goal.returns-then-found-bit-eq0-clause-noted
returns-then-found-bit-eq0-clause-noted g c =
    let x = c.load-found.result in
    let still = c.load-found.ensures.told.1 (found_is x c.args.bit c.args.item g.J.NamesAct.act c.requires.act c.requires.bit.0 ∙ (bit_is x c.args.bit c.args.item c.args.item refl c.requires.bit.0 ∙ c.if-found-bit-eq0.true)) in
    subst (λ (m : SeatView). AddsNote m c.set_mark_as_writer.new.seat.me) still c.set_mark_as_writer.ensures.noted

pub returns-else-found-bit-eq0-clause-noted : goal.returns-else-found-bit-eq0-clause-noted
returns-else-found-bit-eq0-clause-noted g c =
    let x = c.load-found.result in
    let is = bit_is x c.args.bit c.args.item c.args.item refl c.requires.bit.0 in
    let set : bit_at x (recency_bit c.args.item) ≡ 1 = omega (arith, is, bit_at-lt x (recency_bit c.args.item), c.if-found-bit-eq0.false) in
    note_of g.J.NamesAct.act c.args.seat.now.me _ _ (c.load-found.ensures.told.0 (found_is x c.args.bit c.args.item g.J.NamesAct.act c.requires.act c.requires.bit.0 ∙ set)).1
