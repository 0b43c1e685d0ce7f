use Rattle.std.proofs.Common.{arith, refl}
use Rattle.mc_search.specs.Free.{Fresh}
use Rattle.mc_search.proofs.TakenItems.{new_kept}
use Rattle.mc_search.proofs.free.FreeList.new.Goals as goal

pub returns-clause-kept : goal.returns-clause-kept
returns-clause-kept c = new_kept _ c.in_ok-returned.ensures.heap_order c.in_ok-returned.ensures.items refl (omega (arith, c.in_ok-returned.ensures.capacity))

pub returns-clause-all : goal.returns-clause-all
returns-clause-all c = λ i l. Fresh (omega arith) l
