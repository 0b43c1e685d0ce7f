use Rattle.std.proofs.Common.{◌≡◌, ap, arith, refl, sym, ◌∙◌}
use Rattle.mc_shared.specs.Records.{Opening}
use Rattle.mc_words.specs.declared.shape.Shape.{Shape}
use Rattle.mc_words.specs.History.{key_count}
use Rattle.mc_shards.proofs.CountedShards.{few_at_rest}
use Rattle.mc_shards.proofs.HeldCalls.{At, history_of_shard, keeps_writers, rests_at, stays_at, table_at, takes_at}
use Rattle.mc_shards.proofs.holding.Holder.len_at.Goals as goal

pub writer-writer-requires : goal.writer-writer-requires
writer-writer-requires g c =
    let a : At g.row.V c.args.shards.now c.args.self.now c.self.inside.readers.items c.self.inside.turns.items c.args.n c.index_mut.result.now c.lender.result.now =
    record { is = c.self.view_is; of = c.requires.of; have = c.self.invariant.0; locked = c.lender.ensures.lock; here = c.index_mut.ensures.value } in
    let fits = takes_at _ c.behind-shards.view_is a in
    (omega arith, (omega arith, (fits.0, fits.1)))

pub invariant_of-self : goal.invariant_of-self
invariant_of-self g c =
    let a : At g.row.V c.args.shards.now c.args.self.now c.self.inside.readers.items c.self.inside.turns.items c.args.n c.index_mut.result.now c.lender.result.now =
    record { is = c.self.view_is; of = c.requires.of; have = c.self.invariant.0; locked = c.lender.ensures.lock; here = c.index_mut.ensures.value } in
    let w = c.writer-writer.result.now in
    (keeps_writers w w c.writer-writer.ensures.value refl (rests_at w w c.writer-writer.ensures.value refl a) a, c.self.invariant.1)

pub returns-clause-same : goal.returns-clause-same
returns-clause-same g c =
    let a : At g.row.V c.args.shards.now c.args.self.now c.self.inside.readers.items c.self.inside.turns.items c.args.n c.index_mut.result.now c.lender.result.now =
    record { is = c.self.view_is; of = c.requires.of; have = c.self.invariant.0; locked = c.lender.ensures.lock; here = c.index_mut.ensures.value } in
    stays_at c.writer-writer.result.now c.writer-writer.result.now c.writer-writer.ensures.value refl a

pub returns-clause-plain : goal.returns-clause-plain
returns-clause-plain g c =
    let a : At g.row.V c.args.shards.now c.args.self.now c.self.inside.readers.items c.self.inside.turns.items c.args.n c.index_mut.result.now c.lender.result.now =
    record { is = c.self.view_is; of = c.requires.of; have = c.self.invariant.0; locked = c.lender.ensures.lock; here = c.index_mut.ensures.value } in
    c.len.ensures.plain ∙ ap key_count (sym (history_of_shard c.writer-writer.result.now c.writer-writer.ensures.value a))

pub returns-clause-few : goal.returns-clause-few
returns-clause-few g c =
    let a : At g.row.V c.args.shards.now c.args.self.now c.self.inside.readers.items c.self.inside.turns.items c.args.n c.index_mut.result.now c.lender.result.now =
    record { is = c.self.view_is; of = c.requires.of; have = c.self.invariant.0; locked = c.lender.ensures.lock; here = c.index_mut.ensures.value } in
    let w = c.writer-writer.result.now in
    let of : w.of ≡ c.cache-cache.result.now = table_at w c.cache-cache.result.now c.writer-writer.ensures.value c.lender.ensures.table c.cache-cache.ensures.table a in
    let shape = ap (λ (o : Opening). o.layout.shape.items) of in
    omega (arith, c.len.ensures.plain, few_at_rest g.row.V w c.known.ensures.rests, shape, ap (λ (sh : Shape). sh.items) c.cache-cache.ensures.shape)
