use Rattle.std.proofs.Common.{◌∙◌, ap, arith, subst, sym}
use Rattle.mc_shared.specs.Records.{Opening}
use Rattle.mc_cache.specs.TurnCalls.{HasMade}
use Rattle.mc_shards.specs.Sharded.{shard_in}
use Rattle.mc_shards.proofs.HeldCalls.{At, changes_at, holds_at, keeps_writers, means_at, table_at, takes_at}
use Rattle.mc_shards.proofs.holding.Holder.call.Goals as goal

pub writer-writer-requires : goal.writer-writer-requires
writer-writer-requires g c =
    let a : At g.row.V c.args.shards.now c.args.self.now c.self.inside.readers.items c.self.inside.turns.items c.shard_of-n.result c.index_mut.result.now c.lender.result.now =
    record { is = c.self.view_is; of = c.requires.of; have = c.self.invariant.0; locked = c.lender.ensures.lock; here = c.index_mut.ensures.value } in
    let fits = takes_at _ c.behind-shards.view_is a in
    (omega arith, (omega arith, (fits.0, fits.1)))

pub make-requires : goal.make-requires
make-requires g c =
    let a : At g.row.V c.args.shards.now c.args.self.now c.self.inside.readers.items c.self.inside.turns.items c.shard_of-n.result c.index_mut.result.now c.lender.result.now =
    record { is = c.self.view_is; of = c.requires.of; have = c.self.invariant.0; locked = c.lender.ensures.lock; here = c.index_mut.ensures.value } in
    (omega arith, (omega arith, table_at c.writer-writer.result.now c.cache.result.now c.writer-writer.ensures.value c.lender.ensures.table c.cache.ensures.table a))

pub invariant_of-self : goal.invariant_of-self
invariant_of-self g c =
    let a : At g.row.V c.args.shards.now c.args.self.now c.self.inside.readers.items c.self.inside.turns.items c.shard_of-n.result c.index_mut.result.now c.lender.result.now =
    record { is = c.self.view_is; of = c.requires.of; have = c.self.invariant.0; locked = c.lender.ensures.lock; here = c.index_mut.ensures.value } in
    (keeps_writers c.writer-writer.result.now c.make.new.writer c.writer-writer.ensures.value c.make.ensures.made.of c.make.ensures.rests a, c.self.invariant.1)

pub returns-clause-of : goal.returns-clause-of
returns-clause-of g c =
    let a : At g.row.V c.args.shards.now c.args.self.now c.self.inside.readers.items c.self.inside.turns.items c.shard_of-n.result c.index_mut.result.now c.lender.result.now =
    record { is = c.self.view_is; of = c.requires.of; have = c.self.invariant.0; locked = c.lender.ensures.lock; here = c.index_mut.ensures.value } in
    holds_at c.writer-writer.result.now c.make.new.writer c.writer-writer.ensures.value c.make.ensures.made.of a

pub returns-clause-made : goal.returns-clause-made
returns-clause-made g c =
    let a : At g.row.V c.args.shards.now c.args.self.now c.self.inside.readers.items c.self.inside.turns.items c.shard_of-n.result c.index_mut.result.now c.lender.result.now =
    record { is = c.self.view_is; of = c.requires.of; have = c.self.invariant.0; locked = c.lender.ensures.lock; here = c.index_mut.ensures.value } in
    let made = subst (λ (o : Opening). HasMade (g.C.TurnCall.contract c.args.call) o c.make.result c.writer-writer.result.now c.make.new.writer)
    (sym (table_at c.writer-writer.result.now c.cache.result.now c.writer-writer.ensures.value c.lender.ensures.table c.cache.ensures.table a)) c.make.ensures.made in
    changes_at _ c.writer-writer.result.now c.make.new.writer _ c.writer-writer.ensures.value (c.shard_of-n.ensures.shard ∙ ap (shard_in c.args.shards.now) c.key.ensures.value) made a

pub returns-clause-plain : goal.returns-clause-plain
returns-clause-plain g c =
    let a : At g.row.V c.args.shards.now c.args.self.now c.self.inside.readers.items c.self.inside.turns.items c.shard_of-n.result c.index_mut.result.now c.lender.result.now =
    record { is = c.self.view_is; of = c.requires.of; have = c.self.invariant.0; locked = c.lender.ensures.lock; here = c.index_mut.ensures.value } in
    means_at _ c.writer-writer.result.now c.make.new.writer _ c.writer-writer.ensures.value (c.shard_of-n.ensures.shard ∙ ap (shard_in c.args.shards.now) c.key.ensures.value) c.make.ensures.made.means a
