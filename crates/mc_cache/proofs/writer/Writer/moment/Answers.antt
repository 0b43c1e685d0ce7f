use Rattle.mc_cache.proofs.PlainCalls.{moment_tells}
use Rattle.mc_cache.proofs.writer.Writer.moment.Goals as goal

pub returns-clause-plain : goal.returns-clause-plain
returns-clause-plain g c = moment_tells g.row.V c.self.inside.books c.args.self.now c.self.inside.seat c.self.inside.moment c.self.view_is c.self.invariant.0 c.self.invariant.1
