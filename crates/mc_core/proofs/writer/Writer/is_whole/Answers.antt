use Rattle.mc_core.proofs.writer.Writer.is_whole.Goals as goal
use Rattle.mc_lookup.proofs.StageSteps.{both_trans}
use Rattle.mc_core.proofs.WrittenWords.{all_words}

pub returns : goal.returns
returns g c = both_trans c.count_is.ensures (all_words g.row.V c.args.count c.payload_words.result c.args.self.now.written c.payload_words.ensures.count c.requires)
