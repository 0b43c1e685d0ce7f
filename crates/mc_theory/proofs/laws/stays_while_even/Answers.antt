use Rattle.mc_theory.proofs.laws.stays_while_even.Goals as goal
use Rattle.mc_theory.proofs.Replies.TrueReplies.{stays_while_even}

pub returns : goal.returns
returns g c = stays_while_even g.row.V
