use Rattle.std.proofs.Common.{arith, subst, sym}
use Rattle.mc_words.specs.KeyParts.{HasParts}
use Rattle.mc_words.specs.declared.shape.Shape.{Shape}
use Rattle.mc_writer.proofs.Pens.{shape_kept}
use Rattle.mc_writer.proofs.pen.Pen.put_waiting.Goals as goal

pub take_item-requires : goal.take_item-requires
take_item-requires g c =
    let width = c.requires.waits.known.width in
    (omega arith, (omega (arith, width.most), (width, (subst (λ (z : Shape). HasParts z c.args.key c.args.parts) (sym (shape_kept c.choose.ensures.same)) c.requires.parts, (c.args.self.now, c.in-Ok.ensures.chosen)))))
