use Rattle.std.proofs.Common.{◌∙◌, ◌-◌, get_or, [], length, arith, subst}
use Rattle.mc_shards.proofs.HeldCalls.{as_many_histories}
use Rattle.mc_shards.proofs.StampedShards.{pairs_more, stamped_all, stamped_more}
use Rattle.mc_shards.specs.Holding.{Holding, histories}
use Rattle.mc_shards.specs.Inside.Listed.{AddsStamped}
use Rattle.mc_shards.proofs.holding.Holder.stamped_entries.Goals as goal

pub loop-left-preserved : goal.loop-left-preserved
loop-left-preserved g c =
    let was = c.loop-left.invariant in
    let s = c.args.shards.now in
    let before = c.loop-left.all.items in let after = c.list_stamped_shard.new.all.items in
    let long = as_many_histories g.row.V s c.args.self.now c.requires.of in
    let adds = subst (λ (h : Holding). AddsStamped g.row.V s.shape.mix (length s.tables) (c.loop-left.left - 1) (get_or (histories g.row.V h) (c.loop-left.left - 1) []) before after) was.same c.in_ok-list_stamped_shard.ensures.listed in
    record {
      same = c.list_stamped_shard.ensures.same ∙ was.same;
      few = omega (arith, was.few);
      many = was.many;
      listed = pairs_more g.row.V s.shape.mix (length s.tables) c.loop-left.left (c.loop-left.left - 1) (histories g.row.V c.args.self.now) before after
          (omega (arith, c.loop-left-test.true)) (omega (arith, long, was.few, c.loop-left-test.true)) was.listed adds;
      stamped = stamped_more g.row.V s.shape.mix (length s.tables) (c.loop-left.left - 1) (histories g.row.V c.args.self.now) before after long was.stamped adds;
    }

pub returns-clause-plain : goal.returns-clause-plain
returns-clause-plain g c =
    let was = c.loop-left.invariant in
    let s = c.args.shards.now in
    stamped_all g.row.V s.shape.mix _ c.loop-left.left _ c.loop-left.all.items was.many (as_many_histories g.row.V s c.args.self.now c.requires.of) (omega (arith, c.loop-left-test.false)) was.listed was.stamped
