use Rattle.std.proofs.Common.{arith, refl}
use Rattle.std.proofs.lemmas.Bool.{false≢true}
use Rattle.mc_search.proofs.TakenItems.{gives_room, given_kept, given_gives}
use Rattle.mc_search.proofs.free.FreeList.give.Goals as goal

pub unreachable-requires : goal.unreachable-requires
unreachable-requires c =
    let f = c.args.self.now in
    let many = f.returned.data.ok.0 in
    let room = gives_room f c.args.item c.requires.kept c.requires.in_items c.requires.taken in
    false≢true (c.in-Err.ensures.succeeds (omega (arith, many, room)))

pub returns-clause-kept : goal.returns-clause-kept
returns-clause-kept c =
    given_kept c.args.self.now c.args.item c.requires.kept c.requires.in_items c.requires.taken _ refl refl c.in-Ok.ensures.permutation (c.in-Ok.ensures.heap_order c.requires.kept.ordered) (omega (arith, c.push.ensures.capacity, c.requires.kept.room))

pub returns-clause-gives : goal.returns-clause-gives
returns-clause-gives c = given_gives c.args.self.now c.args.item c.requires.kept c.requires.in_items c.requires.taken _ refl refl c.in-Ok.ensures.permutation
