use Rattle.mc_door.specs.Roles.{role_of}
use Rattle.cefrodil.specs.Inside.LookedUp.{AreLookedUpTo}
use Rattle.cefrodil.proofs.many.look_up_all.Given as goal

abbrev pub invariant-loop-index : goal.invariant-loop-index
invariant-loop-index g l = AreLookedUpTo g.row.V (role_of l.fn.side) (role_of l.side) l.keys l.fn.values l.values l.answers l.index
