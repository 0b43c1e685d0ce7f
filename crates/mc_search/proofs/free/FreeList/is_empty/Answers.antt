use Rattle.std.proofs.Common.{arith, inl, inr, length, refl}
use Rattle.std.proofs.lemmas.Bool.{cases_lt}
use Rattle.std.proofs.lemmas.List.{nil_from_length}
use Rattle.std.specs.BinaryHeap.{heap_items}
use Rattle.mc_search.proofs.TakenItems.{fresh_free, none_free, returned_free}
use Rattle.mc_search.proofs.free.FreeList.is_empty.Goals as goal

pub returns-then-self : goal.returns-then-self
returns-then-self c =
    let f = c.args.self.now in
    let many = f.returned.data.ok.0 in (
      λ empty. none_free f (omega (arith, c.if-self.true)) (nil_from_length (heap_items f.returned) (grind (arith, many, c.is_empty.ensures, empty))),
      λ none. elim (cases_lt 0 (length (heap_items f.returned))) [
        | inl some ↦ let free = returned_free f some in absurd (none free.0 free.1)
        | inr zero ↦ grind (arith, many, c.is_empty.ensures, zero)
      ],
    )

pub returns-else-self : goal.returns-else-self
returns-else-self c =
    let f = c.args.self.now in (
      λ full. absurd (grind (arith, c.if-self.false, full)),
      λ none. absurd (none f.fresh (fresh_free f f.fresh refl (omega (arith, c.requires.within, c.if-self.false)))),
    )
