use Rattle.std.proofs.Common.{ap}
use Rattle.mc_shared.specs.Records.{WriterRecord}
use Rattle.mc_cache.proofs.PlainCalls.{history_new, new_sees_none}
use Rattle.mc_cache.proofs.opening.open_by.Goals as goal

pub returns-in-Ok-open_checked-clause-plain : goal.returns-in-Ok-open_checked-clause-plain
returns-in-Ok-open_checked-clause-plain g c =
    let opened = c.in-Ok-open_checked.opened in
    let writer = c.in-Ok-open_checked.ensures.writer in (
      history_new g.row.V opened.0 opened.1 (ap (λ (w : WriterRecord). w.of) writer) (ap (λ (w : WriterRecord). w.acts) writer),
      new_sees_none g.row.V opened.0 opened.2.items c.in-Ok-open_checked.ensures.fresh,
    )
