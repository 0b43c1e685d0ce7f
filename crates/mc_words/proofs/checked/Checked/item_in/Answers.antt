use Rattle.mc_words.proofs.SlotWords.{parts-named}
use Rattle.mc_words.proofs.checked.Checked.item_in.Goals as goal

pub overflow_sub-result : goal.overflow_sub-result
overflow_sub-result c = (parts-named c.args.self.now.shape c.args.word c.args.self.now.sound c.requires).0

pub returns-clause-range : goal.returns-clause-range
returns-clause-range c = (parts-named c.args.self.now.shape c.args.word c.args.self.now.sound c.requires).2
