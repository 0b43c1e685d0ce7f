use Rattle.mc_words.specs.Checks.{shape_of}
use Rattle.mc_words.specs.History.{map_value}
use Rattle.mc_theory.proofs.Invariant.RunningDeed.{held_from_absent}
use Rattle.mc_search.proofs.KeySlots.{placed-quiet}
use Rattle.mc_search.proofs.reading.read.Goals as goal

pub find-requires-clause-placed : goal.find-requires-clause-placed
find-requires-clause-placed g c = placed-quiet g.row.V (shape_of c.args.checked.now) (g.P.Peek.words c.args.peek.now) c.requires.agrees.0 c.args.key c.requires.agrees.1

pub returns-in-None-clause-none : goal.returns-in-None-clause-none
returns-in-None-clause-none g c h agrees =
    held_from_absent g.row.V (shape_of c.args.checked.now) (g.P.Peek.words c.args.peek.now) c.args.key (map_value h c.args.key) (agrees.keys c.args.key (λ e. cc)) c.in-None.ensures.none
