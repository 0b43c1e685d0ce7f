use Rattle.std.proofs.Common.{ℕ, ◌<◌, arith, sym, subst}
use Rattle.mc_words.specs.Places.{IsPlace}
use Rattle.mc_words.specs.declared.shape.Shape.{Shape}
use Rattle.mc_words.proofs.Keys.{stripe_of-lt}
use Rattle.mc_lookup.specs.Machine.{shape_for}
use Rattle.mc_lookup.proofs.StageSteps.{place_in_table}
use Rattle.mc_reader.proofs.places.Places.of.Goals as goal

pub version_place-requires : goal.version_place-requires
version_place-requires g c =
    let l = c.args.lookup.now in
    subst (λ (sh : Shape). c.stripe.result < sh.stripes) c.requires.shape (subst (λ (s : ℕ). s < (shape_for l).stripes) (sym c.stripe.ensures) (stripe_of-lt (shape_for l) l.key l.checked.sound))

pub slot_place-requires : goal.slot_place-requires
slot_place-requires g c =
    let l = c.args.lookup.now in
    subst (λ (sh : Shape). IsPlace sh c.place.result) c.requires.shape (subst (IsPlace (shape_for l)) (sym c.place.ensures) (place_in_table (shape_for l) l.key l.parts.first l.parts.second 0 l.checked.sound l.parts_are.first l.parts_are.second (omega arith)))

pub slot_place-requires-2 : goal.slot_place-requires-2
slot_place-requires-2 g c =
    let l = c.args.lookup.now in
    subst (λ (sh : Shape). IsPlace sh c.place-2.result) c.requires.shape (subst (IsPlace (shape_for l)) (sym c.place-2.ensures) (place_in_table (shape_for l) l.key l.parts.first l.parts.second 4 l.checked.sound l.parts_are.first l.parts_are.second (omega arith)))
