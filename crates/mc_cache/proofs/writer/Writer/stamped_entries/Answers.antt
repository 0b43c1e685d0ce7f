use Rattle.mc_cache.specs.Plain.{history}
use Rattle.mc_cache.proofs.EntryCounts.{stamped_many}
use Rattle.mc_cache.proofs.PlainCalls.{stamped_now}
use Rattle.mc_cache.proofs.writer.Writer.stamped_entries.Goals as goal

pub returns-clause-plain : goal.returns-clause-plain
returns-clause-plain g c =
    stamped_now g.row.V c.args.cache.now c.cache.inside.cells c.args.self.now c.self.inside.seat c.cache.view_is c.self.view_is c.requires.of c.in_ok-entries.entries.items c.in_ok-entries.ensures.entries

pub returns-clause-many : goal.returns-clause-many
returns-clause-many g c =
    let V = g.row.V in
    let es = c.in_ok-entries.entries.items in
    stamped_many V (history V c.args.self.now) es
    (stamped_now V c.args.cache.now c.cache.inside.cells c.args.self.now c.self.inside.seat c.cache.view_is c.self.view_is c.requires.of es c.in_ok-entries.ensures.entries)
