use Rattle.mc_plan.proofs.Deeds.Fills.{fills}
use Rattle.mc_plan.proofs.laws.fills_put.Goals as goal

pub returns : goal.returns
returns g c = λ sh k v at i p shape key value word. fills g.row.V sh k v at i p shape key value.0 value.1 word
