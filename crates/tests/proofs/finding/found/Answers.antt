use Rattle.std.proofs.Common.{ℕ, List, refl, sym, subst}
use Rattle.mc_words.specs.Checks.{shape_of}
use Rattle.mc_search.specs.Readable.{IsPlaced}
use Rattle.tests.proofs.finding.found.Goals as goal

pub find-requires-clause-placed : goal.find-requires-clause-placed
find-requires-clause-placed c =
    subst (λ (w : List ℕ). IsPlaced 1 (shape_of c.args.checked.now) w c.args.key) (sym c.is_placed.ensures.same) (c.if-is_placed.ensures.placed refl)
