use Rattle.std.proofs.Common.{ℕ, ◌∙◌, ◌++◌, ap}
use Rattle.mc_shards.specs.Inside.Listed.{own_stamped_of}
use Rattle.mc_shards.specs.Sharded.{Sharded}
use Rattle.mc_shards.proofs.holding.Holder.list_stamped_shard.Goals as goal

pub returns-clause-listed : goal.returns-clause-listed
returns-clause-listed g c =
    let es = c.in_ok-entries.entries.items in
    let old = c.args.all.now.items in
    let shape = ap (λ (s : Sharded). old ++ own_stamped_of s.shape.mix c.count.result c.args.n es) c.shards.view_is in
    let many = ap (λ (m : ℕ). old ++ own_stamped_of c.args.shards.now.shape.mix m c.args.n es) c.count.ensures.count in
    (es, c.in_ok-entries.ensures.plain, c.in-Ok.ensures ∙ (shape ∙ many))
