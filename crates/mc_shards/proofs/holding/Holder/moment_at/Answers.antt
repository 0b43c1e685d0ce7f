use Rattle.std.proofs.Common.{◌∙◌, ap, arith, length, refl, sym}
use Rattle.mc_shards.proofs.HeldCalls.{At, history_of_shard, keeps_writers, rests_at, stays_at, takes_at}
use Rattle.mc_shards.proofs.holding.Holder.moment_at.Goals as goal

pub writer-writer-requires : goal.writer-writer-requires
writer-writer-requires g c =
    let a : At g.row.V c.args.shards.now c.args.self.now c.self.inside.readers.items c.self.inside.turns.items c.args.n c.index_mut.result.now c.lender.result.now =
    record { is = c.self.view_is; of = c.requires.of; have = c.self.invariant.0; locked = c.lender.ensures.lock; here = c.index_mut.ensures.value } in
    let fits = takes_at _ c.behind-shards.view_is a in
    (omega arith, (omega arith, (fits.0, fits.1)))

pub invariant_of-self : goal.invariant_of-self
invariant_of-self g c =
    let a : At g.row.V c.args.shards.now c.args.self.now c.self.inside.readers.items c.self.inside.turns.items c.args.n c.index_mut.result.now c.lender.result.now =
    record { is = c.self.view_is; of = c.requires.of; have = c.self.invariant.0; locked = c.lender.ensures.lock; here = c.index_mut.ensures.value } in
    let w = c.writer-writer.result.now in
    (keeps_writers w w c.writer-writer.ensures.value refl (rests_at w w c.writer-writer.ensures.value refl a) a, c.self.invariant.1)

pub returns-clause-same : goal.returns-clause-same
returns-clause-same g c =
    let a : At g.row.V c.args.shards.now c.args.self.now c.self.inside.readers.items c.self.inside.turns.items c.args.n c.index_mut.result.now c.lender.result.now =
    record { is = c.self.view_is; of = c.requires.of; have = c.self.invariant.0; locked = c.lender.ensures.lock; here = c.index_mut.ensures.value } in
    stays_at c.writer-writer.result.now c.writer-writer.result.now c.writer-writer.ensures.value refl a

pub returns-clause-plain : goal.returns-clause-plain
returns-clause-plain g c =
    let a : At g.row.V c.args.shards.now c.args.self.now c.self.inside.readers.items c.self.inside.turns.items c.args.n c.index_mut.result.now c.lender.result.now =
    record { is = c.self.view_is; of = c.requires.of; have = c.self.invariant.0; locked = c.lender.ensures.lock; here = c.index_mut.ensures.value } in
    c.moment.ensures.plain ∙ ap length (sym (history_of_shard c.writer-writer.result.now c.writer-writer.ensures.value a))
