use Rattle.mc_cache.proofs.PlainCalls.{answered}
use Rattle.mc_cache.proofs.reader.Reader.get.Goals as goal

pub returns-clause-plain : goal.returns-clause-plain
returns-clause-plain g c =
    answered g.row.V c.args.cache.now c.cache.inside.cells c.args.self.now c.self.inside.seat c.get.new.seat c.args.key c.get.result c.cache.view_is c.self.view_is c.requires.of c.get.ensures.looked.of c.get.ensures.looked.begins c.get.ensures.truth
    c.get.ensures.between
