use Rattle.mc_executions.proofs.EvictionExample.{evicted_then_met}
use Rattle.mc_executions.proofs.laws.evicted_then_met.Goals as goal

pub returns : goal.returns
returns c = evicted_then_met
