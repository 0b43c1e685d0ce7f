use Rattle.std.proofs.Common.{sym, subst}
use Rattle.mc_words.specs.declared.shape.Shape.{Shape}
use Rattle.mc_core.specs.Inside.Writers.{UsedIn}
use Rattle.mc_core.proofs.NewWorld.{new_state, new_used}
use Rattle.mc_core.proofs.writer.Writer.new.Goals as goal

pub returns : goal.returns
returns g c =
    let t = c.in_ok-table.ensures in
    (t.0, new_state g.row.V _ _ _ t.1 c.new-2.ensures.items, subst (λ (sh : Shape). UsedIn sh c.in_ok-table.table.words.items c.in_ok-table.table.used.items c.in_ok-table.table.free) (sym t.0) (new_used _ _ _ _ _ t.1 t.2 t.3))
