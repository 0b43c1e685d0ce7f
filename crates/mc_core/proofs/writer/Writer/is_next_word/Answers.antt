use Rattle.mc_core.proofs.writer.Writer.is_next_word.Goals as goal
use Rattle.mc_lookup.proofs.StageSteps.{both_trans}
use Rattle.mc_core.proofs.WrittenWords.{next_word}

pub returns : goal.returns
returns g c = both_trans c.follows.ensures (next_word g.row.V c.args.count c.args.j c.payload_words.result c.args.self.now.written c.payload_words.ensures.count c.requires)
