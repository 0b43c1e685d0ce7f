use Rattle.std.proofs.Common.{ℕ, ◌≡◌, ◌+◌, arith, [], ◌∷◌, length, sym, subst}
use Rattle.mc_words.specs.Places.{item_place}
use Rattle.mc_words.specs.declared.shape.Shape.{Shape}
use Rattle.mc_theory.specs.declared.act.Act.TheVariants as act
use Rattle.mc_plan.specs.Plans.{value_acts}
use Rattle.mc_writer.specs.Inside.Pens.{IsDue, HasMade}
use Rattle.mc_writer.proofs.Pens.{first_due, made_then, rest_due, shape_kept}
use Rattle.mc_writer.proofs.pen.Pen.write_payload.Goals as goal

pub write_value-requires : goal.write_value-requires
write_value-requires g c =
    let v = c.args.value.now in
    (omega arith, (omega (arith, c.requires.width), (c.requires.width, (c.requires.items, first_due g.row.V (value_acts c.args.i 1 v) (act.Item c.args.i (length v + 1) c.args.at ∷ []) _ c.requires.due))))

pub write_item_from-requires : goal.write_item_from-requires
write_item_from-requires g c =
    let V = g.row.V in
    let v = c.args.value.now in
    let i = c.args.i in
    let many : length v ≡ V = c.told-value in
    let due = rest_due (act.Item i (length v + 1) c.args.at ∷ []) c.write_value.ensures.made c.requires.due in
    let next = subst (λ (n : ℕ). IsDue V (act.Item i (n + 1) c.args.at ∷ []) c.write_value.new.self) many due in
    (omega arith, (c.requires.width, ((subst (λ (sh : Shape). c.args.items ≡ item_place V sh 0 0) (sym (shape_kept c.write_value.ensures.made.same)) c.requires.items.0, c.requires.items.1), next)))

pub returns : goal.returns
returns g c =
    let V = g.row.V in
    let many : length c.args.value.now ≡ V = c.told-value in
    let stamp = subst (λ (n : ℕ). HasMade V (act.Item c.args.i (n + 1) c.args.at ∷ []) c.write_value.new.self c.write_item_from.new.self) (sym many) c.write_item_from.ensures.made in
    record { made = made_then c.write_value.ensures.made stamp }
