use Rattle.std.proofs.Common.{Ok, Err, subst}
use Rattle.mc_writer.specs.Evictions.{HasTriedToEvict}
use Rattle.mc_writer.specs.declared.entry.Evict.{Evict}
use Rattle.mc_writer.specs.declared.entry.Evict.TheVariants.{Evicted, Empty}
use Rattle.mc_cache.proofs.FailedCalls.{evict_fails}
use Rattle.mc_cache.proofs.PlainCalls.{evict_means}
use Rattle.mc_cache.proofs.writer.Writer.evict.Goals as goal

pub returns-in-Ok-Evicted-clause-plain : goal.returns-in-Ok-Evicted-clause-plain
returns-in-Ok-Evicted-clause-plain g c =
    evict_means g.row.V c.args.cache.now c.cache.inside.cells c.args.self.now c.self.inside.seat c.cache.view_is c.self.view_is c.requires.of c.evict.new.seat (Ok (Evicted c.in-Ok-Evicted.at c.in-Ok-Evicted.old))
    (subst (λ (told : Evict g.row.V). HasTriedToEvict g.row.V c.cache.inside.cells.layout.shape c.self.inside.seat c.evict.new.seat (Ok told)) c.in-Ok-Evicted.field-0-is c.in-Ok-Evicted.ensures.tried)

pub returns-in-Ok-Empty-clause-plain : goal.returns-in-Ok-Empty-clause-plain
returns-in-Ok-Empty-clause-plain g c =
    evict_means g.row.V c.args.cache.now c.cache.inside.cells c.args.self.now c.self.inside.seat c.cache.view_is c.self.view_is c.requires.of c.evict.new.seat (Ok (Empty c.in-Ok-Empty.at))
    (subst (λ (told : Evict g.row.V). HasTriedToEvict g.row.V c.cache.inside.cells.layout.shape c.self.inside.seat c.evict.new.seat (Ok told)) c.in-Ok-Empty.field-0-is c.in-Ok-Empty.ensures.tried)

pub returns-in-Err-clause-plain : goal.returns-in-Err-clause-plain
returns-in-Err-clause-plain g c = evict_means g.row.V c.args.cache.now c.cache.inside.cells c.args.self.now c.self.inside.seat c.cache.view_is c.self.view_is c.requires.of c.evict.new.seat (Err c.in-Err.why) c.in-Err.ensures.tried

pub returns-in-Err-clause-fails : goal.returns-in-Err-clause-fails
returns-in-Err-clause-fails g c = evict_fails g.row.V c.args.cache.now c.cache.inside.cells c.args.self.now c.self.inside.seat c.evict.new.seat c.cache.view_is c.self.view_is c.requires.of c.self.inside.books (Err c.in-Err.why) c.self.invariant.0 c.in-Err.ensures.tried
