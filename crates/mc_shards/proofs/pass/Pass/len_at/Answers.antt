use Rattle.std.specs.Prelude.{IfNone, IfSome}
use Rattle.std.proofs.Common.{◌≡◌, refl}
use Rattle.mc_words.specs.History.{key_count}
use Rattle.mc_cache.specs.Plain.{Begins}
use Rattle.mc_cache.specs.Turns.{HasMetAtDesk}
use Rattle.mc_shards.proofs.Dealt.{changes_here, here, kept_here, seens_here}
use Rattle.mc_shards.proofs.pass.Pass.len_at.Goals as goal

pub returns-clause-of : goal.returns-clause-of
returns-clause-of g c =
    kept_here c.args.shards.now c.args.self.now c.self.inside.readers.items c.args.n c.index_mut-reader.result.now c.try_len.new.pass c.self.view_is c.requires.of (here c.args.shards.now c.args.self.now c.self.inside.readers.items c.args.n c.index_mut-reader.result.now c.self.view_is c.requires.of c.requires.range c.index_mut-reader.ensures.value) c.try_len.ensures.of

pub returns-clause-met : goal.returns-clause-met
returns-clause-met g c =
    changes_here c.args.n c.args.n c.args.self.now c.self.inside.readers.items c.index_mut-reader.result.now c.try_len.new.pass (λ r r'. IfNone c.try_len.result (r' ≡ r) × IfSome c.try_len.result (λ _. HasMetAtDesk g.row.V r r')) c.self.view_is refl (here c.args.shards.now c.args.self.now c.self.inside.readers.items c.args.n c.index_mut-reader.result.now c.self.view_is c.requires.of c.requires.range c.index_mut-reader.ensures.value) (c.try_len.ensures.held, c.try_len.ensures.met)

pub returns-clause-plain : goal.returns-clause-plain
returns-clause-plain g c =
    seens_here g.row.V c.args.n c.args.n c.args.self.now c.self.inside.readers.items c.index_mut-reader.result.now c.try_len.new.pass (λ h h'. Begins h h' × IfSome c.try_len.result (λ many. many ≡ key_count h')) c.self.view_is refl (here c.args.shards.now c.args.self.now c.self.inside.readers.items c.args.n c.index_mut-reader.result.now c.self.view_is c.requires.of c.requires.range c.index_mut-reader.ensures.value)
    (c.try_len.ensures.begins, c.try_len.ensures.plain)
