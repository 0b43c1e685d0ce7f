use Rattle.mc_theory.proofs.laws.replies_are_true.Goals as goal
use Rattle.mc_theory.proofs.Replies.TrueReplies.{replies_are_true}

pub returns : goal.returns
returns g c = replies_are_true g.row.V
