use Rattle.std.proofs.Common.{◌∙◌, ap, arith}
use Rattle.mc_shared.specs.Records.{WriterRecord}
use Rattle.mc_cache.proofs.writer.Writer.put_if_absent_bounded.Goals as goal

pub get-requires : goal.get-requires
get-requires g c =
    let width = c.has.ensures.width in
    (omega arith, (omega arith, (omega (arith, width.most), ap (λ (w : WriterRecord). w.of) c.has.ensures.same ∙ c.requires.of)))
