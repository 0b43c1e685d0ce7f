use Rattle.std.proofs.Common.{sym, ◌∙◌}
use Rattle.std.proofs.lemmas.Bool.{false≢true}
use Rattle.mc_core.specs.Inside.Writers.{shape_of_writer, words_of_writer}
use Rattle.mc_core.proofs.AllowedActs.{found_any, found_that}
use Rattle.mc_core.proofs.writer.Writer.is_cleared.Goals as goal

pub returns-then-is_some : goal.returns-then-is_some
returns-then-is_some g c = found_that g.row.V (shape_of_writer c.args.self.now) (words_of_writer c.args.self.now) c.args.key c.item_of-item.result c.args.self.now.cleared c.eq.result c.requires c.item_of-item.ensures (c.if-is_some.ensures {u = tt}) c.eq.ensures

pub returns-else-is_some : goal.returns-else-is_some
returns-else-is_some g c =
    let any = found_any g.row.V (shape_of_writer c.args.self.now) (words_of_writer c.args.self.now) c.args.key c.item_of-item.result c.is_some.result c.item_of-item.ensures c.is_some.ensures in
    (λ h. absurd (false≢true (sym c.if-is_some.false ∙ h)), λ may. any.1 (may.0, may.1, may.2))
