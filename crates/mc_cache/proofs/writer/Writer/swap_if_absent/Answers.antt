use Rattle.std.proofs.Common.{◌∙◌, None, ap}
use Rattle.mc_cache.specs.Plain.{history}
use Rattle.mc_cache.proofs.PlainCalls.{held_now}
use Rattle.mc_cache.proofs.writer.Writer.swap_if_absent.Goals as goal

pub returns-in-Err-clause-plain : goal.returns-in-Err-clause-plain
returns-in-Err-clause-plain g c = (
  (
    held_now g.row.V c.args.cache.now c.cache.inside.cells c.args.self.now c.self.inside.seat c.cache.view_is c.self.view_is c.requires.of c.args.key None c.in-None.ensures.none,
    c.in-Err.ensures.plain.0 ∙ ap (history g.row.V) (c.look.ensures.seat ∙ c.self.view_is),
  ),
  tt,
)
