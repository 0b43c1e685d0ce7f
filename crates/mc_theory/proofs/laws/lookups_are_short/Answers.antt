use Rattle.mc_theory.proofs.laws.lookups_are_short.Goals as goal
use Rattle.mc_theory.proofs.Replies.Lengths.{lookup_length}

pub returns : goal.returns
returns g c = lookup_length g.row.V
