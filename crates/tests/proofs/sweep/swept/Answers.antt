use Rattle.std.proofs.Common.{ℕ, ◌≡◌, ◌∙◌, ◌∷◌, [], ◌++◌, None, Option, Some, refl, sym, true}
use Rattle.std.proofs.lemmas.Bool.{false≢true}
use Rattle.std.specs.Option.{is_some}
use Rattle.tests.proofs.sweep.swept.Goals as goal

some_of : (o : Option ℕ) → is_some o ≡ true → (i : ℕ) × (o ≡ Some i)
some_of (Some i) e = (i, refl)
some_of None e = absurd (false≢true e)

pub loop-bit-preserved : goal.loop-bit-preserved
loop-bit-preserved c =
    let had = c.loop-bit.invariant in
    let item = some_of c.next.result c.if-is_none.ensures in
    (had.0 ++ record { item = item.0; bit = _ } ∷ [], c.after.ensures.swept c.args.items c.args.hand had.0 item.0 had.1 (sym c.next.ensures.value ∙ item.1))
