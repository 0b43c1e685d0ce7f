use Rattle.mc_plan.proofs.Deeds.Renewals.{renews}
use Rattle.mc_plan.proofs.laws.renewals_put.Goals as goal

pub returns : goal.returns
returns g c = λ sh k v at i shape key value word. renews g.row.V sh k v at i shape key value.0 value.1 word
