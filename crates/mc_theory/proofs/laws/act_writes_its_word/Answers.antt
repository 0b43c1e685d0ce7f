use Rattle.mc_theory.proofs.laws.act_writes_its_word.Goals as goal
use Rattle.mc_theory.proofs.Lists.WrittenWords.{writes_its_word}

pub returns : goal.returns
returns g c = writes_its_word g.row.V
