use Rattle.std.proofs.Common.{List, ap, arith, rules, subst, sym}
use Rattle.std.specs.Prelude.{IfOk}
use Rattle.mc_words.specs.declared.history.Change.{Change}
use Rattle.mc_shared.specs.Records.{WriterRecord}
use Rattle.mc_cache.specs.Stamped.{AreStampedEntriesOf}
use Rattle.mc_shards.proofs.HeldCalls.{At, history_of_shard, keeps_writers, rests_at, stays_at, table_at, takes_at}
use Rattle.mc_shards.proofs.holding.Holder.stamped_entries_at.Goals as goal

pub writer-writer-requires : goal.writer-writer-requires
writer-writer-requires g c =
    let a : At g.row.V c.args.shards.now c.args.self.now c.self.inside.readers.items c.self.inside.turns.items c.args.n c.index_mut.result.now c.lender.result.now =
    record { is = c.self.view_is; of = c.requires.of; have = c.self.invariant.0; locked = c.lender.ensures.lock; here = c.index_mut.ensures.value } in
    let fits = takes_at _ c.behind-shards.view_is a in
    (omega arith, (omega arith, (fits.0, fits.1)))

pub stamped_entries-requires : goal.stamped_entries-requires
stamped_entries-requires g c =
    let a : At g.row.V c.args.shards.now c.args.self.now c.self.inside.readers.items c.self.inside.turns.items c.args.n c.index_mut.result.now c.lender.result.now =
    record { is = c.self.view_is; of = c.requires.of; have = c.self.invariant.0; locked = c.lender.ensures.lock; here = c.index_mut.ensures.value } in
    (omega arith, (omega arith, (search rules, table_at c.writer-writer.result.now c.cache.result.now c.writer-writer.ensures.value c.lender.ensures.table c.cache.ensures.table a)))

pub invariant_of-self : goal.invariant_of-self
invariant_of-self g c =
    let a : At g.row.V c.args.shards.now c.args.self.now c.self.inside.readers.items c.self.inside.turns.items c.args.n c.index_mut.result.now c.lender.result.now =
    record { is = c.self.view_is; of = c.requires.of; have = c.self.invariant.0; locked = c.lender.ensures.lock; here = c.index_mut.ensures.value } in
    let w = c.writer-writer.result.now in
    let same = c.stamped_entries.ensures.writer in
    (keeps_writers w c.stamped_entries.new.self c.writer-writer.ensures.value (ap (λ (x : WriterRecord). x.of) same) (rests_at w c.stamped_entries.new.self c.writer-writer.ensures.value same a) a, c.self.invariant.1)

pub returns-clause-same : goal.returns-clause-same
returns-clause-same g c =
    let a : At g.row.V c.args.shards.now c.args.self.now c.self.inside.readers.items c.self.inside.turns.items c.args.n c.index_mut.result.now c.lender.result.now =
    record { is = c.self.view_is; of = c.requires.of; have = c.self.invariant.0; locked = c.lender.ensures.lock; here = c.index_mut.ensures.value } in
    stays_at c.writer-writer.result.now c.stamped_entries.new.self c.writer-writer.ensures.value c.stamped_entries.ensures.writer a

pub returns-clause-plain : goal.returns-clause-plain
returns-clause-plain g c =
    let a : At g.row.V c.args.shards.now c.args.self.now c.self.inside.readers.items c.self.inside.turns.items c.args.n c.index_mut.result.now c.lender.result.now =
    record { is = c.self.view_is; of = c.requires.of; have = c.self.invariant.0; locked = c.lender.ensures.lock; here = c.index_mut.ensures.value } in
    subst (λ (h : List (Change g.row.V)). IfOk c.stamped_entries.result (λ es. AreStampedEntriesOf g.row.V h es.items)) (sym (history_of_shard c.writer-writer.result.now c.writer-writer.ensures.value a)) c.stamped_entries.ensures.plain
