use Rattle.mc_lookup.proofs.Findings.{findings_stay}
use Rattle.mc_lookup.proofs.laws.findings_stay.Goals as goal

pub returns : goal.returns
returns g c = findings_stay g.row.V
