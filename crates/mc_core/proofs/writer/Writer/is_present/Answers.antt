use Rattle.mc_core.specs.Inside.Writers.{shape_of_writer, words_of_writer}
use Rattle.mc_core.proofs.AllowedActs.{found_any}
use Rattle.mc_core.proofs.writer.Writer.is_present.Goals as goal

pub returns : goal.returns
returns g c = found_any g.row.V (shape_of_writer c.args.self.now) (words_of_writer c.args.self.now) c.args.key c.item_of.result c.is_some.result c.item_of.ensures c.is_some.ensures
