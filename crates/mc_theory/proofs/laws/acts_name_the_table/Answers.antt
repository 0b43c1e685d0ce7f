use Rattle.mc_theory.proofs.Lists.WrittenWords.{acts_name_the_table}
use Rattle.mc_theory.proofs.laws.acts_name_the_table.Goals as goal

pub returns : goal.returns
returns g c = acts_name_the_table g.row.V
