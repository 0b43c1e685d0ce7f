use Rattle.std.proofs.Common.{Ok}
use Rattle.mc_cache.proofs.PlainCalls.{shown_now}
use Rattle.mc_cache.proofs.writer.Writer.entry_at.Goals as goal

pub returns-clause-plain : goal.returns-clause-plain
returns-clause-plain g c =
    shown_now g.row.V c.args.cache.now c.cache.inside.cells c.args.self.now c.self.inside.seat c.cache.view_is c.self.view_is c.requires.of c.show_beside.new.seat (Ok c.show_beside.result) c.show_beside.ensures.seat c.show_beside.ensures.holds
