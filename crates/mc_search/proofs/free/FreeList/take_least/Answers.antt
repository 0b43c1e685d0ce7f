use Rattle.std.proofs.Common.{arith, refl}
use Rattle.std.proofs.lemmas.List.{nil_from_length}
use Rattle.std.specs.BinaryHeap.{heap_items}
use Rattle.mc_search.proofs.TakenItems.{fresh_free, fresh_takes}
use Rattle.mc_search.proofs.free.FreeList.take_least.Goals as goal

pub returns-clause-free : goal.returns-clause-free
returns-clause-free c = fresh_free c.args.self.now _ (omega arith) (omega (arith, c.requires.within, c.if-self.false))

pub returns-clause-takes : goal.returns-clause-takes
returns-clause-takes c =
    let f = c.args.self.now in
    let many = f.returned.data.ok.0 in
    let none = nil_from_length (heap_items f.returned) (grind (arith, many, c.is_empty.ensures, c.if-not-is_empty.false)) in
    fresh_takes f _ c.requires refl refl refl none (omega (arith, c.requires.within, c.if-self.false)) _ (omega arith)
