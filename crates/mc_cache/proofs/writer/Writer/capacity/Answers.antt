use Rattle.std.proofs.Common.{◌∙◌, ap}
use Rattle.mc_shared.specs.Records.{WriterRecord}
use Rattle.mc_words.specs.declared.shape.Shape.{Shape}
use Rattle.mc_writer.proofs.Rests.{shape_is}
use Rattle.std.proofs.Common.{refl}
use Rattle.mc_cache.proofs.writer.Writer.capacity.Goals as goal

pub returns : goal.returns
returns g c =
    c.items.ensures ∙ ap (λ (sh : Shape). sh.items) (shape_is g.row.V c.self.inside.seat.of c.self.inside.books c.self.inside.seat refl c.self.invariant.0)
    ∙ ap (λ (w : WriterRecord). w.of.layout.shape.items) c.self.view_is
