use Rattle.mc_theory.proofs.Lists.WrittenWords.{words_fit}
use Rattle.mc_theory.proofs.laws.words_fit.Goals as goal

pub returns : goal.returns
returns g c = words_fit g.row.V
