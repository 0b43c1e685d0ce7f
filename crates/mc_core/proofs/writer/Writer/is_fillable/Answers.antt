use Rattle.std.proofs.Common.{refl}
use Rattle.mc_core.proofs.writer.Writer.is_fillable.Goals as goal

pub returns-else-not-is_present : goal.returns-else-not-is_present
returns-else-not-is_present g c =
    let here = (c.if-not-is_present.ensures {u = tt}).0 refl in
    (λ h. absurd (cc (h)), λ may. absurd (may.0 here.0 here.1 here.2))
