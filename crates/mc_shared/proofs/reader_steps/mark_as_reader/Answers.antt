use Rattle.std.proofs.Common.{◌≡◌, ℕ, ◌*◌, ◌%◌, ◌^◌, ap, refl, sym, ◌∙◌, subst, ◌<◌, arith}
use mathlib.Core.Option.{none}
use Rattle.atomic_table.specs.Table.{step}
use Rattle.mc_words.specs.Places.{recency_place}
use Rattle.mc_words.specs.Recency.{recency_bit}
use Rattle.mc_shared.specs.Records.{Opening}
use Rattle.mc_shared.specs.Inside.Steps.{only}
use Rattle.mc_shared.proofs.PackedBits.{recency_below, shifted}
use Rattle.mc_shared.proofs.EachStep.{marks_as}
use Rattle.mc_shared.proofs.SeatViews.{marked_is}
use Rattle.mc_shared.proofs.reader_steps.mark_as_reader.Goals as goal

pub fetch_or-requires-clause-of : goal.fetch_or-requires-clause-of
fetch_or-requires-clause-of g c = ap (λ (o : Opening). o.table) c.requires.of

pub fetch_or-requires-clause-place : goal.fetch_or-requires-clause-place
fetch_or-requires-clause-place g c =
    let below = recency_below c.args.ruled.now.layout.width c.args.ruled.now.layout.shape c.args.item c.requires.item.1 in
    omega (arith, c.requires.place, below)

pub fetch_or-requires-clause-allowed : goal.fetch_or-requires-clause-allowed
fetch_or-requires-clause-allowed g c =
    let l = c.args.ruled.now.layout in
    let item = c.requires.item.0 in
    let within : g.J.NamesItem.item < l.shape.items = subst (λ n. n < l.shape.items) (sym item) c.requires.item.1 in
    let here : c.args.place ≡ recency_place l.width l.shape g.J.NamesItem.item = c.requires.place ∙ ap (recency_place l.width l.shape) (sym item) in
    let mask : 1 * 2 ^ c.args.bit % 2 ^ 64 ≡ only g.J.NamesItem.item = shifted c.args.bit c.requires.bit.1 ∙ ap (λ (b : ℕ). 2 ^ b) (c.requires.bit.0 ∙ ap recency_bit (sym item)) in
    marks_as _ _ refl _ _ _ c.requires.seat g.J.NamesItem.item _ _ (λ w. w) (step 0 c.args.place 0 0 none) within mask here

pub returns-clause-one : goal.returns-clause-one
returns-clause-one g c = marked_is c.args.ruled.now.layout c.args.seat.now.me c.args.seat.now.me _ g.J.NamesItem.item c.args.item c.requires.item.0 refl c.requires.seat c.fetch_or.ensures.told
