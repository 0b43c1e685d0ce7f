use Rattle.mc_cache.proofs.HistoryLaws as laws
use Rattle.mc_cache.proofs.laws.history_laws.Goals as goal

pub returns : goal.returns
returns g c = laws.history_laws g.row.V
