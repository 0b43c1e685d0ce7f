use Rattle.std.specs.Prelude.{IfOk}
use Rattle.std.proofs.Common.{refl}
use Rattle.mc_cache.specs.Plain.{AreEntriesOf, Begins}
use Rattle.mc_cache.specs.Turns.{HasTriedToList}
use Rattle.mc_shards.proofs.Dealt.{changes_here, here, kept_here, seens_here}
use Rattle.mc_shards.proofs.pass.Pass.entries_at.Goals as goal

pub returns-clause-of : goal.returns-clause-of
returns-clause-of g c =
    kept_here c.args.shards.now c.args.self.now c.self.inside.readers.items c.args.n c.index_mut-reader.result.now c.try_entries.new.pass c.self.view_is c.requires.of (here c.args.shards.now c.args.self.now c.self.inside.readers.items c.args.n c.index_mut-reader.result.now c.self.view_is c.requires.of c.requires.range c.index_mut-reader.ensures.value) c.try_entries.ensures.of

pub returns-clause-met : goal.returns-clause-met
returns-clause-met g c =
    changes_here c.args.n c.args.n c.args.self.now c.self.inside.readers.items c.index_mut-reader.result.now c.try_entries.new.pass (λ r r'. HasTriedToList g.row.V r r' c.try_entries.result) c.self.view_is refl (here c.args.shards.now c.args.self.now c.self.inside.readers.items c.args.n c.index_mut-reader.result.now c.self.view_is c.requires.of c.requires.range c.index_mut-reader.ensures.value) c.try_entries.ensures.met

pub returns-clause-plain : goal.returns-clause-plain
returns-clause-plain g c =
    seens_here g.row.V c.args.n c.args.n c.args.self.now c.self.inside.readers.items c.index_mut-reader.result.now c.try_entries.new.pass (λ h h'. Begins h h' × IfOk c.try_entries.result (λ es. AreEntriesOf g.row.V h' es.items)) c.self.view_is refl (here c.args.shards.now c.args.self.now c.self.inside.readers.items c.args.n c.index_mut-reader.result.now c.self.view_is c.requires.of c.requires.range c.index_mut-reader.ensures.value)
    (c.try_entries.ensures.begins, c.try_entries.ensures.plain)
