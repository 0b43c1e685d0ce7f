use Rattle.std.proofs.Common.{ap, arith, rules, subst, sym}
use Rattle.mc_shared.specs.Records.{WriterRecord}
use Rattle.mc_cache.specs.Plain.{TellsNow}
use Rattle.mc_shards.proofs.HeldCalls.{At, history_at, keeps_writers, rests_at, stays_at, table_at, takes_at}
use Rattle.mc_shards.proofs.holding.Holder.peek.Goals as goal

pub writer-writer-requires : goal.writer-writer-requires
writer-writer-requires g c =
    let a : At g.row.V c.args.shards.now c.args.self.now c.self.inside.readers.items c.self.inside.turns.items c.shard_of-n.result c.index_mut.result.now c.lender.result.now =
    record { is = c.self.view_is; of = c.requires.of; have = c.self.invariant.0; locked = c.lender.ensures.lock; here = c.index_mut.ensures.value } in
    let fits = takes_at _ c.behind-shards.view_is a in
    (omega arith, (omega arith, (fits.0, fits.1)))

pub peek-requires : goal.peek-requires
peek-requires g c =
    let a : At g.row.V c.args.shards.now c.args.self.now c.self.inside.readers.items c.self.inside.turns.items c.shard_of-n.result c.index_mut.result.now c.lender.result.now =
    record { is = c.self.view_is; of = c.requires.of; have = c.self.invariant.0; locked = c.lender.ensures.lock; here = c.index_mut.ensures.value } in
    (omega arith, (omega arith, (search rules, table_at c.writer-writer.result.now c.cache.result.now c.writer-writer.ensures.value c.lender.ensures.table c.cache.ensures.table a)))

pub invariant_of-self : goal.invariant_of-self
invariant_of-self g c =
    let a : At g.row.V c.args.shards.now c.args.self.now c.self.inside.readers.items c.self.inside.turns.items c.shard_of-n.result c.index_mut.result.now c.lender.result.now =
    record { is = c.self.view_is; of = c.requires.of; have = c.self.invariant.0; locked = c.lender.ensures.lock; here = c.index_mut.ensures.value } in
    (keeps_writers c.writer-writer.result.now c.peek.new.self c.writer-writer.ensures.value (ap (λ (w : WriterRecord). w.of) c.peek.ensures.writer) (rests_at c.writer-writer.result.now c.peek.new.self c.writer-writer.ensures.value c.peek.ensures.writer a) a, c.self.invariant.1)

pub returns-clause-same : goal.returns-clause-same
returns-clause-same g c =
    let a : At g.row.V c.args.shards.now c.args.self.now c.self.inside.readers.items c.self.inside.turns.items c.shard_of-n.result c.index_mut.result.now c.lender.result.now =
    record { is = c.self.view_is; of = c.requires.of; have = c.self.invariant.0; locked = c.lender.ensures.lock; here = c.index_mut.ensures.value } in
    stays_at c.writer-writer.result.now c.peek.new.self c.writer-writer.ensures.value c.peek.ensures.writer a

pub returns-clause-plain : goal.returns-clause-plain
returns-clause-plain g c =
    let a : At g.row.V c.args.shards.now c.args.self.now c.self.inside.readers.items c.self.inside.turns.items c.shard_of-n.result c.index_mut.result.now c.lender.result.now =
    record { is = c.self.view_is; of = c.requires.of; have = c.self.invariant.0; locked = c.lender.ensures.lock; here = c.index_mut.ensures.value } in
    subst (λ h. TellsNow h c.args.key c.peek.result) (sym (history_at c.writer-writer.result.now c.args.key c.writer-writer.ensures.value c.shard_of-n.ensures.shard a)) c.peek.ensures.plain
