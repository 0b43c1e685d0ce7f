use Rattle.std.proofs.Common.{◌≡◌, ◌≢◌, ℕ, ◌/◌, ◌^◌, bit_and, [], ◌∷◌, ◌++◌, ap, refl, sym, ◌∙◌, subst, arith}
use Rattle.std.specs.Int.{bit_at}
use Rattle.std.proofs.lemmas.Nat.Bits.{bit_at-lt}
use Rattle.atomic_table.specs.Table.{step}
use mathlib.Core.Option.{none}
use Rattle.mc_theory.specs.declared.act.Act.{Act}
use Rattle.mc_theory.specs.declared.act.Act.TheVariants.{Hand}
use Rattle.mc_words.specs.Recency.{recency_bit}
use Rattle.mc_shared.specs.Records.{Opening}
use Rattle.mc_shared.specs.Steps.{SeatView, item_bit}
use Rattle.mc_shared.specs.Inside.Steps.{all_but, AddsNote}
use Rattle.mc_shared.specs.Inside.Seats.{MayMake}
use Rattle.mc_shared.specs.Views.{writer_view, acts_of, tally_of, with_bit}
use Rattle.mc_shared.proofs.PackedBits.{bit_is}
use Rattle.mc_shared.proofs.WrittenPlaces.{place_below}
use Rattle.mc_shared.proofs.EachStep.{passes_as}
use Rattle.mc_shared.proofs.SeatSteps.{take_is, note_of}
use Rattle.mc_shared.proofs.writer_steps.turn_hand_unless_clear_as_writer.Goals as goal

pub load-found-requires-clause-of : goal.load-found-requires-clause-of
load-found-requires-clause-of g c = ap (λ (o : Opening). o.table) c.requires.of

pub load-found-requires-clause-place : goal.load-found-requires-clause-place
load-found-requires-clause-place g c = place_below c.args.ruled.now.layout (acts_of c.args.seat.now.me.0) (Hand c.args.item) c.args.place (all_but c.args.item) c.requires.may (c.requires.place, refl)

pub load-found-requires-clause-allowed : goal.load-found-requires-clause-allowed
load-found-requires-clause-allowed g c = passes_as _ _ refl _ _ _ c.requires.seat g.J.NamesAct.act c.args.item _ (step 0 c.args.place 0 0 none) c.requires.act c.requires.may refl c.requires.place

-- the bit that the load found, as the play has it
found_is : (found bit item : ℕ) (a : Act) → a ≡ Hand item → bit ≡ recency_bit item → bit_at found (item_bit a) ≡ bit_at found (recency_bit item)
found_is found bit item a same here = ap (λ (b : Act). bit_at found (item_bit b)) same

-- if the bit is set, the load left the seat as it was
still : (me me' : SeatView) (a : Act) (found bit item : ℕ) → a ≡ Hand item → bit ≡ recency_bit item → bit_and (found / 2 ^ bit) 1 ≢ 0 → (bit_at found (item_bit a) ≡ 1 → me' ≡ me) → me' ≡ me
still me me' a found bit item same here ne then =
    let is = bit_is found bit item item refl here in
    then (found_is found bit item a same here ∙ omega (arith, is, bit_at-lt found (recency_bit item), ne))

pub turn_hand_as_writer-requires-clause-seat : goal.turn_hand_as_writer-requires-clause-seat
turn_hand_as_writer-requires-clause-seat g c = subst (λ (m : SeatView). m ≡ (writer_view c.args.ruled.now.layout (acts_of m.0) (tally_of m.0), [])) (sym (still _ _ g.J.NamesAct.act c.load-found.result c.args.bit c.args.item c.requires.act c.requires.bit.0 c.if-found-bit-eq0.false c.load-found.ensures.told.2)) c.requires.seat

pub turn_hand_as_writer-requires-clause-may : goal.turn_hand_as_writer-requires-clause-may
turn_hand_as_writer-requires-clause-may g c = subst (λ (m : SeatView). MayMake c.args.ruled.now.layout (acts_of m.0) (Hand c.args.item)) (sym (still _ _ g.J.NamesAct.act c.load-found.result c.args.bit c.args.item c.requires.act c.requires.bit.0 c.if-found-bit-eq0.false c.load-found.ensures.told.2)) c.requires.may

pub returns-then-found-bit-eq0-clause-acts : goal.returns-then-found-bit-eq0-clause-acts
returns-then-found-bit-eq0-clause-acts g c =
    let x = c.load-found.result in
    let clear : bit_at x (recency_bit c.args.item) ≡ 0 = bit_is x c.args.bit c.args.item c.args.item refl c.requires.bit.0 ∙ c.if-found-bit-eq0.true in
    take_is c.args.ruled.now.layout c.args.seat.now.me _ g.J.NamesAct.act c.args.item x 0 c.requires.act (sym clear) c.requires.seat (c.load-found.ensures.told.1 (found_is x c.args.bit c.args.item g.J.NamesAct.act c.requires.act c.requires.bit.0 ∙ clear))

pub returns-then-found-bit-eq0-clause-noted : goal.returns-then-found-bit-eq0-clause-noted
returns-then-found-bit-eq0-clause-noted g c =
    let x = c.load-found.result in
    let clear : bit_at x (recency_bit c.args.item) ≡ 0 = bit_is x c.args.bit c.args.item c.args.item refl c.requires.bit.0 ∙ c.if-found-bit-eq0.true in
    note_of g.J.NamesAct.act c.args.seat.now.me _ _ (c.load-found.ensures.told.1 (found_is x c.args.bit c.args.item g.J.NamesAct.act c.requires.act c.requires.bit.0 ∙ clear))

pub returns-clause-acts : goal.returns-clause-acts
returns-clause-acts g c =
    subst (λ (m : SeatView). c.turn_hand_as_writer.new.seat.me ≡ (writer_view c.args.ruled.now.layout (acts_of m.0 ++ with_bit (Hand c.args.item) c.turn_hand_as_writer.result ∷ []) (tally_of c.turn_hand_as_writer.new.seat.me.0), []))
    (still _ _ g.J.NamesAct.act c.load-found.result c.args.bit c.args.item c.requires.act c.requires.bit.0 c.if-found-bit-eq0.false c.load-found.ensures.told.2) c.turn_hand_as_writer.ensures.acts

pub returns-clause-noted : goal.returns-clause-noted
returns-clause-noted g c =
    subst (λ (m : SeatView). AddsNote m c.turn_hand_as_writer.new.seat.me) (still _ _ g.J.NamesAct.act c.load-found.result c.args.bit c.args.item c.requires.act c.requires.bit.0 c.if-found-bit-eq0.false c.load-found.ensures.told.2) c.turn_hand_as_writer.ensures.noted
