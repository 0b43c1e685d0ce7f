use Rattle.mc_cache.proofs.PlainCalls.{legal_now, rests_now}
use Rattle.mc_cache.proofs.writer.Writer.known.Goals as goal

pub returns-clause-rests : goal.returns-clause-rests
returns-clause-rests g c = rests_now g.row.V c.self.inside.books c.args.self.now c.self.inside.seat c.self.view_is c.self.invariant.0

pub returns-clause-plain : goal.returns-clause-plain
returns-clause-plain g c = legal_now g.row.V c.self.inside.books c.args.self.now c.self.inside.seat c.self.view_is c.self.invariant.0 c.known.ensures.run
