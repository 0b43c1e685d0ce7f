use Rattle.std.proofs.Common.{rules}
use Rattle.mc_core.proofs.ShownWords.{among_all, words_before}
use Rattle.mc_core.proofs.peek.RefWorldPeek.word.Goals as goal

pub word-requires : goal.word-requires
word-requires g c = (search rules, among_all g.row.V c.args.n c.args.self.now.now c.reached.ensures.events.0 c.reached.ensures.events.2 c.requires)

pub returns-clause-value : goal.returns-clause-value
returns-clause-value g c = c.word.ensures.words (words_before g.row.V c.args.n c.args.self.now.now c.reached.ensures.events.0 c.reached.ensures.events.2 c.requires)
