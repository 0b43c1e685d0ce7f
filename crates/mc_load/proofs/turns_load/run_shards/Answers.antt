use Rattle.mc_load.proofs.Refused.{refused_by_no_gate}
use Rattle.mc_load.proofs.turns_load.run_shards.Goals as goal

pub returns-in-Err : goal.returns-in-Err
returns-in-Err g c = refused_by_no_gate (g.G.Gate.may_refuse c.args.gate.now) c.args.load c.args.shards c.args.writers c.in-Err.why (c.in-Err.ensures c.args.shards)
