use Rattle.std.proofs.Common.{arith, rules, subst, sym}
use Rattle.mc_shared.specs.Records.{Opening}
use Rattle.mc_cache.specs.Plain.{TellsNow}
use Rattle.mc_writer.specs.WriterCalls.{HasGot}
use Rattle.mc_shards.proofs.HeldCalls.{At, changes_at, history_at, holds_at, keeps_writers, same_histories_at, table_at, takes_at}
use Rattle.mc_shards.proofs.holding.Holder.get.Goals as goal

pub writer-writer-requires : goal.writer-writer-requires
writer-writer-requires g c =
    let a : At g.row.V c.args.shards.now c.args.self.now c.self.inside.readers.items c.self.inside.turns.items c.shard_of-n.result c.index_mut.result.now c.lender.result.now =
    record { is = c.self.view_is; of = c.requires.of; have = c.self.invariant.0; locked = c.lender.ensures.lock; here = c.index_mut.ensures.value } in
    let fits = takes_at _ c.behind-shards.view_is a in
    (omega arith, (omega arith, (fits.0, fits.1)))

pub get-reply-requires : goal.get-reply-requires
get-reply-requires g c =
    let a : At g.row.V c.args.shards.now c.args.self.now c.self.inside.readers.items c.self.inside.turns.items c.shard_of-n.result c.index_mut.result.now c.lender.result.now =
    record { is = c.self.view_is; of = c.requires.of; have = c.self.invariant.0; locked = c.lender.ensures.lock; here = c.index_mut.ensures.value } in
    (omega arith, (omega arith, (search rules, table_at c.writer-writer.result.now c.cache.result.now c.writer-writer.ensures.value c.lender.ensures.table c.cache.ensures.table a)))

pub invariant_of-self : goal.invariant_of-self
invariant_of-self g c =
    let a : At g.row.V c.args.shards.now c.args.self.now c.self.inside.readers.items c.self.inside.turns.items c.shard_of-n.result c.index_mut.result.now c.lender.result.now =
    record { is = c.self.view_is; of = c.requires.of; have = c.self.invariant.0; locked = c.lender.ensures.lock; here = c.index_mut.ensures.value } in
    (keeps_writers c.writer-writer.result.now c.get-reply.new.self c.writer-writer.ensures.value c.get-reply.ensures.got.of c.known.ensures.rests a, c.self.invariant.1)

pub returns-clause-of : goal.returns-clause-of
returns-clause-of g c =
    let a : At g.row.V c.args.shards.now c.args.self.now c.self.inside.readers.items c.self.inside.turns.items c.shard_of-n.result c.index_mut.result.now c.lender.result.now =
    record { is = c.self.view_is; of = c.requires.of; have = c.self.invariant.0; locked = c.lender.ensures.lock; here = c.index_mut.ensures.value } in
    holds_at c.writer-writer.result.now c.get-reply.new.self c.writer-writer.ensures.value c.get-reply.ensures.got.of a

pub returns-clause-got : goal.returns-clause-got
returns-clause-got g c =
    let a : At g.row.V c.args.shards.now c.args.self.now c.self.inside.readers.items c.self.inside.turns.items c.shard_of-n.result c.index_mut.result.now c.lender.result.now =
    record { is = c.self.view_is; of = c.requires.of; have = c.self.invariant.0; locked = c.lender.ensures.lock; here = c.index_mut.ensures.value } in
    let got = subst (λ (o : Opening). HasGot g.row.V o.layout.shape c.args.key c.writer-writer.result.now c.get-reply.new.self c.get-reply.result)
    (sym (table_at c.writer-writer.result.now c.cache.result.now c.writer-writer.ensures.value c.lender.ensures.table c.cache.ensures.table a)) c.get-reply.ensures.got in
    changes_at _ c.writer-writer.result.now c.get-reply.new.self _ c.writer-writer.ensures.value c.shard_of-n.ensures.shard got a

pub returns-clause-plain : goal.returns-clause-plain
returns-clause-plain g c =
    let a : At g.row.V c.args.shards.now c.args.self.now c.self.inside.readers.items c.self.inside.turns.items c.shard_of-n.result c.index_mut.result.now c.lender.result.now =
    record { is = c.self.view_is; of = c.requires.of; have = c.self.invariant.0; locked = c.lender.ensures.lock; here = c.index_mut.ensures.value } in
    let was = history_at c.writer-writer.result.now c.args.key c.writer-writer.ensures.value c.shard_of-n.ensures.shard a in (
      subst (λ h. TellsNow h c.args.key c.get-reply.result) (sym was) c.get-reply.ensures.plain.0,
      same_histories_at c.writer-writer.result.now c.get-reply.new.self c.writer-writer.ensures.value c.get-reply.ensures.plain.1 a,
    )
