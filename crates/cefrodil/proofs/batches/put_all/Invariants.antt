use Rattle.std.proofs.Common.{take}
use Rattle.mc_cache.specs.Batches.{InOrder}
use Rattle.mc_door.specs.Roles.{role_of}
use Rattle.mc_door.specs.Batches.{entries_of}
use Rattle.cefrodil.specs.Batches.{HasPutEntry}
use Rattle.cefrodil.proofs.batches.put_all.Given as goal

abbrev pub invariant-loop-index : goal.invariant-loop-index
invariant-loop-index g l = InOrder (HasPutEntry g.row.V) (take l.index (entries_of g.row.V l.keys l.values)) (role_of l.fn.side) (role_of l.side) (take l.index l.answers)
