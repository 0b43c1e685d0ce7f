use Rattle.mc_cache.proofs.PlainCalls.{keys_now}
use Rattle.mc_cache.proofs.writer.Writer.len.Goals as goal

pub key_count-requires : goal.key_count-requires
key_count-requires g c = (g.row.V, _, c.self.invariant.0.known)

pub returns : goal.returns
returns g c = record {
  plain = keys_now g.row.V c.self.inside.books c.args.self.now c.self.inside.seat c.key_count.result c.self.view_is c.self.invariant.0 (c.key_count.ensures g.row.V _ c.self.invariant.0.known);
}
