use Rattle.mc_cache.proofs.PlainCalls.{many_answered}
use Rattle.mc_cache.proofs.reader.Reader.get_many.Goals as goal

pub returns-clause-plain : goal.returns-clause-plain
returns-clause-plain g c =
    many_answered g.row.V c.args.cache.now c.cache.inside.cells c.args.self.now c.self.inside.seat c.get_many.new.seat c.args.keys.now c.get_many.new.replies c.cache.view_is c.self.view_is c.requires.of c.get_many.ensures.of
    c.get_many.ensures.looked c.get_many.ensures.truth
