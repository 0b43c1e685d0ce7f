use Rattle.std.proofs.Common.{arith}
use Rattle.mc_shards.proofs.HeldCalls.{as_many_histories}
use Rattle.mc_shards.proofs.ListedShards.{held_all}
use Rattle.mc_shards.proofs.holding.Holder.entries.Goals as goal

pub returns-clause-plain : goal.returns-clause-plain
returns-clause-plain g c =
    let was = c.loop-left.invariant in
    let s = c.args.shards.now in
    held_all g.row.V s.shape.mix _ c.loop-left.left _ c.loop-left.all.items was.many (as_many_histories g.row.V s c.args.self.now c.requires.of) (omega (arith, c.loop-left-test.false)) was.listed
