use Rattle.std.proofs.Common.{◌≡◌, ◌+◌, List, [], ◌∷◌, drop, get_or, sym, subst, arith}
use Rattle.mc_words.specs.Places.{item_place}
use Rattle.mc_words.specs.declared.shape.Shape.{Shape}
use Rattle.mc_theory.specs.declared.act.Act.{Act}
use Rattle.mc_theory.specs.declared.act.Act.TheVariants as act
use Rattle.mc_plan.specs.Plans.{value_acts}
use Rattle.mc_writer.specs.Inside.Pens.{IsDue}
use Rattle.mc_writer.proofs.Due.{next_word, no_words}
use Rattle.mc_writer.proofs.Pens.{all_made, due_then, first_due, none_yet, one_more, shape_kept}
use Rattle.mc_writer.proofs.pen.Pen.write_value.Goals as goal

pub write_item_from-requires : goal.write_item_from-requires
write_item_from-requires g c =
    let v = c.args.value.now in
    let j = c.loop-j.j in
    let i = c.args.i in
    let d = due_then (value_acts i (j + 1) (drop j v)) c.loop-j.invariant.made c.requires.due in
    let next = subst (λ (xs : List Act). IsDue g.row.V xs c.loop-j.self) (next_word i j v (omega arith)) d in
    (omega arith, (c.requires.width, ((subst (λ (sh : Shape). c.args.items ≡ item_place g.row.V sh 0 0) (sym (shape_kept c.loop-j.invariant.made.made.same)) c.requires.items.0, c.requires.items.1), first_due g.row.V (act.Item i (j + 1) (get_or v j 0) ∷ []) (value_acts i (j + 1 + 1) (drop (j + 1) v)) _ next)))

pub loop-j-preserved : goal.loop-j-preserved
loop-j-preserved g c =
    let v = c.args.value.now in
    let j = c.loop-j.j in
    let i = c.args.i in
    record { made = one_more (value_acts i (j + 1) (drop j v)) (act.Item i (j + 1) (get_or v j 0) ∷ []) (value_acts i (j + 1 + 1) (drop (j + 1) v)) (next_word i j v (omega arith)) c.loop-j.invariant.made c.write_item_from.ensures.made }

pub loop-j-init : goal.loop-j-init
loop-j-init g c = record { made = none_yet g.row.V (value_acts c.args.i 1 c.args.value.now) c.args.self.now }

pub returns : goal.returns
returns g c =
    let v = c.args.value.now in
    let j = c.loop-j.j in
    record { made = all_made (value_acts c.args.i (j + 1) (drop j v)) (no_words c.args.i j v (omega arith)) c.loop-j.invariant.made }
