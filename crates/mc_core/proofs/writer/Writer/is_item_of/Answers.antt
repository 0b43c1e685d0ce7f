use Rattle.mc_core.specs.Inside.Writers.{shape_of_writer, words_of_writer}
use Rattle.mc_core.proofs.AllowedActs.{found_it}
use Rattle.mc_core.proofs.writer.Writer.is_item_of.Goals as goal

pub returns : goal.returns
returns g c = found_it g.row.V (shape_of_writer c.args.self.now) (words_of_writer c.args.self.now) c.args.key c.item_of.result c.args.i c.eq.result c.requires c.item_of.ensures c.eq.ensures
