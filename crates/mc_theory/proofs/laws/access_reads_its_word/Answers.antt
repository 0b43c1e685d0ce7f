use Rattle.mc_theory.proofs.laws.access_reads_its_word.Goals as goal
use Rattle.mc_theory.proofs.Lists.WrittenWords.{reads_its_word}

pub returns : goal.returns
returns g c = reads_its_word g.row.V
