use Rattle.mc_cache.proofs.KeptMoments.{got_keeps}
use Rattle.mc_cache.proofs.PlainCalls.{got_means}
use Rattle.mc_cache.proofs.writer.Writer.get.Goals as goal

pub returns-clause-plain : goal.returns-clause-plain
returns-clause-plain g c = got_means g.row.V c.args.cache.now c.cache.inside.cells c.args.self.now c.self.inside.seat c.cache.view_is c.self.view_is c.requires.of c.get.new.seat c.args.key c.get.result c.get.ensures.got

pub invariant_of-self : goal.invariant_of-self
invariant_of-self g c = (c.get.ensures.rested, got_keeps g.row.V _ c.args.key c.self.inside.seat c.get.new.seat c.get.result c.self.inside.moment c.get.ensures.got c.self.invariant.1)
