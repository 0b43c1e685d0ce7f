use Rattle.std.proofs.Common.{◌<◌, ◌∙◌, Ok, arith, sym, subst}
use Rattle.mc_words.specs.KeyParts.{HasParts}
use Rattle.mc_words.specs.declared.shape.Shape.{Shape}
use Rattle.mc_plan.specs.WholeCalls.{PutCall}
use Rattle.mc_plan.specs.declared.answer.Answer.TheVariants as answer
use Rattle.mc_plan.specs.declared.answer.Put.{Put}
use Rattle.mc_writer.specs.WriterCalls.{HasCalled}
use Rattle.mc_writer.proofs.Chosen.{chosen_due, chosen_made}
use Rattle.mc_writer.proofs.WholeCalls.{shape_there}
use Rattle.mc_writer.proofs.Pens.{shape_kept}
use Rattle.mc_writer.proofs.pen.Pen.take_item.Goals as goal

pub make_replacement-requires : goal.make_replacement-requires
make_replacement-requires g c =
    let V = g.row.V in
    let q = c.args.self.now in
    let b = c.args.books.now in
    let r = c.args.taken in
    let p = c.requires.chosen.0 in
    let is = c.requires.chosen.1 in
    let here = shape_there V p b is.layout ∙ sym (shape_kept is.read.same) in (
      omega arith,
      (
        omega (arith, c.requires.width.most),
        (
          c.requires.width,
          (
            subst (λ (z : Shape). r.storing.item < z.items) here is.in_items,
            (chosen_due V b c.args.key c.args.value.now p q r is, (c.requires.parts, subst (λ (z : Shape). HasParts z r.victim.key r.victim.parts) here is.parts)),
          ),
        ),
      ),
    )

pub returns-clause-called : goal.returns-clause-called
returns-clause-called g c before is =
    let V = g.row.V in
    subst (λ (x : Put). HasCalled V before.cells.now.layout.shape (PutCall c.args.key c.args.value.now) before.seat.now c.make_replacement.new.self.seat.now (answer.Put (Ok x))) (sym c.told.ensures)
    (chosen_made V c.args.books.now c.args.key c.args.value.now before c.args.self.now c.args.taken is c.make_replacement.new.self c.make_replacement.ensures.made).1

pub returns-clause-rested : goal.returns-clause-rested
returns-clause-rested g c =
    (chosen_made g.row.V c.args.books.now c.args.key c.args.value.now c.requires.chosen.0 c.args.self.now c.args.taken c.requires.chosen.1 c.make_replacement.new.self c.make_replacement.ensures.made).2
