use Rattle.mc_words.proofs.Apart.{places_apart}
use Rattle.mc_words.proofs.checked.Checked.words.Goals as goal

pub returns-clause-apart : goal.returns-clause-apart
returns-clause-apart g c = places_apart g.row.V
