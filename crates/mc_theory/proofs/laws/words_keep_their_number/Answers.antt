use Rattle.mc_theory.proofs.laws.words_keep_their_number.Goals as goal
use Rattle.mc_theory.proofs.Lists.WrittenWords.{keeps_its_words}

pub returns : goal.returns
returns g c = keeps_its_words g.row.V
