use Rattle.std.proofs.Common.{◌≡◌, [], ◌∷◌, ◌++◌, ap, refl, sym, ◌∙◌, subst, ◌<◌, arith}
use Rattle.std.specs.Int.{bit_at}
use Rattle.std.proofs.lemmas.Nat.Bits.{bit_at-lt}
use mathlib.Core.Option.{none}
use Rattle.atomic_table.specs.Table.{step}
use Rattle.mc_words.specs.Places.{recency_place}
use Rattle.mc_words.specs.Recency.{recency_bit}
use Rattle.mc_shared.specs.Records.{Opening}
use Rattle.mc_shared.specs.Steps.{SeatView, mark_at}
use Rattle.mc_shared.proofs.PackedBits.{recency_below, bit_is}
use Rattle.mc_shared.specs.Views.{reader_view, number_of, front_of, done_of}
use Rattle.mc_shared.proofs.EachStep.{notices_as}
use Rattle.mc_shared.proofs.SeatViews.{marked_is}
use Rattle.mc_shared.proofs.reader_steps.mark_unless_set_as_reader.Goals as goal

pub load-found-requires-clause-of : goal.load-found-requires-clause-of
load-found-requires-clause-of g c = ap (λ (o : Opening). o.table) c.requires.of

pub load-found-requires-clause-place : goal.load-found-requires-clause-place
load-found-requires-clause-place g c =
    let below = recency_below c.args.ruled.now.layout.width c.args.ruled.now.layout.shape c.args.item c.requires.item.1 in
    omega (arith, c.requires.place, below)

pub load-found-requires-clause-allowed : goal.load-found-requires-clause-allowed
load-found-requires-clause-allowed g c =
    let l = c.args.ruled.now.layout in
    let item = c.requires.item.0 in
    let within : g.J.NamesItem.item < l.shape.items = subst (λ n. n < l.shape.items) (sym item) c.requires.item.1 in
    let here : c.args.place ≡ recency_place l.width l.shape g.J.NamesItem.item = c.requires.place ∙ ap (recency_place l.width l.shape) (sym item) in
    notices_as _ _ refl _ _ _ c.requires.seat g.J.NamesItem.item _ (step 0 c.args.place 0 0 none) within here

pub mark_as_reader-requires-clause-seat : goal.mark_as_reader-requires-clause-seat
mark_as_reader-requires-clause-seat g c =
    let still = c.load-found.ensures.told.1 (bit_is c.load-found.result c.args.bit c.args.item g.J.NamesItem.item c.requires.item.0 c.requires.bit.0 ∙ c.if-found-bit-eq0.true) in
    subst (λ (m : SeatView). m ≡ (reader_view c.args.ruled.now.layout (number_of m.0) (front_of m.0) (done_of m.0), [])) (sym still) c.requires.seat

pub returns-then-found-bit-eq0-clause-one : goal.returns-then-found-bit-eq0-clause-one
returns-then-found-bit-eq0-clause-one g c =
    let still = c.load-found.ensures.told.1 (bit_is c.load-found.result c.args.bit c.args.item g.J.NamesItem.item c.requires.item.0 c.requires.bit.0 ∙ c.if-found-bit-eq0.true) in
    subst (λ (m : SeatView). c.mark_as_reader.new.seat.me ≡ (reader_view c.args.ruled.now.layout (number_of m.0) (front_of m.0) (done_of m.0 ++ mark_at c.args.item (front_of m.0) ∷ []), [])) still c.mark_as_reader.ensures.one

pub returns-else-found-bit-eq0-clause-one : goal.returns-else-found-bit-eq0-clause-one
returns-else-found-bit-eq0-clause-one g c =
    let is = bit_is c.load-found.result c.args.bit c.args.item g.J.NamesItem.item c.requires.item.0 c.requires.bit.0 in
    let set : bit_at c.load-found.result (recency_bit g.J.NamesItem.item) ≡ 1 = omega (arith, is, bit_at-lt c.load-found.result (recency_bit g.J.NamesItem.item), c.if-found-bit-eq0.false) in
    marked_is c.args.ruled.now.layout c.args.seat.now.me c.args.seat.now.me _ g.J.NamesItem.item c.args.item c.requires.item.0 refl c.requires.seat (c.load-found.ensures.told.0 set)
