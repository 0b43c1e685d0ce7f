use Rattle.std.proofs.Common.{arith, refl}
use Rattle.mc_search.proofs.TakenItems.{popped_kept, popped_free, popped_takes, popped_least}
use Rattle.mc_search.proofs.free.FreeList.take_returned.Goals as goal

pub returns-clause-kept : goal.returns-clause-kept
returns-clause-kept c =
    popped_kept c.args.self.now _ c.in-Some.item c.requires.kept refl refl c.in-Some.ensures.permutation (c.in-Some.ensures.heap_order c.requires.kept.ordered).0 (omega (arith, c.pop.ensures.capacity, c.requires.kept.room))

pub returns-clause-free : goal.returns-clause-free
returns-clause-free c = popped_free c.args.self.now (record { items = c.args.self.now.items; fresh = c.args.self.now.fresh; returned = c.pop.new.self }) c.in-Some.item c.requires.kept refl refl c.in-Some.ensures.permutation

pub returns-clause-takes : goal.returns-clause-takes
returns-clause-takes c = popped_takes c.args.self.now _ c.in-Some.item c.requires.kept refl refl c.in-Some.ensures.permutation

pub returns-clause-least : goal.returns-clause-least
returns-clause-least c = popped_least c.args.self.now (record { items = c.args.self.now.items; fresh = c.args.self.now.fresh; returned = c.pop.new.self }) c.in-Some.item c.requires.kept refl refl c.in-Some.ensures.permutation (c.in-Some.ensures.heap_order c.requires.kept.ordered).1
