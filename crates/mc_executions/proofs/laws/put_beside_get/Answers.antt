use Rattle.mc_executions.proofs.Example.{put_beside_get}
use Rattle.mc_executions.proofs.laws.put_beside_get.Goals as goal

pub returns : goal.returns
returns c = put_beside_get
