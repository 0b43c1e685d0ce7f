use Rattle.mc_theory.proofs.laws.agrees.Goals as goal
use Rattle.mc_theory.proofs.Replies.TrueReplies.{agrees_always}

pub returns : goal.returns
returns g c = agrees_always g.row.V
