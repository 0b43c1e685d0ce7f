use Rattle.std.proofs.Common.{arith, sym}
use Rattle.std.proofs.lemmas.Option.{get_or_from_slice_get}
use Rattle.mc_executions.proofs.ManyInShards.{pass_many_are_timed}
use Rattle.mc_executions.proofs.shard_calls.pass_get_many.Goals as goal

pub returns : goal.returns
returns g c = record {
  timed = pass_many_are_timed g.row.V c.args.shards.now c.args.keys.now c.args.pass.now c.get_many.new.self c.get_many.new.replies
      (λ n k at. omega (arith, sym (get_or_from_slice_get c.args.keys.now n k 0 at), c.type_inv.keys n)) c.get_many.ensures.looked;
}
