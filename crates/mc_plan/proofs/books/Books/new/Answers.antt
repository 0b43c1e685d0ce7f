use Rattle.std.proofs.Common.{◌≡◌, ◌∙◌, ap, arith, refl}
use Rattle.mc_words.specs.declared.shape.Shape.{Shape}
use Rattle.mc_plan.specs.declared.books.Books.{Books}
use Rattle.mc_plan.specs.declared.far.Far.{Far}
use Rattle.mc_plan.proofs.Calls.AfterPlan.{new_books}
use Rattle.mc_plan.proofs.books.Books.new.Goals as goal

pub returns-clause-books : goal.returns-clause-books
returns-clause-books c V width =
    let b : Books = record { checked = c.args.checked.now; far = c.in-Ok.far; free = c.in_ok-free.free; hand = 0; version_steps = 0 } in
    let same : c.shape.result.items ≡ c.args.checked.now.shape.items = ap (λ (x : Shape). x.items) c.shape.ensures in
    new_books V b width (ap (λ (f : Far). f.finder) c.in-Ok.ensures.ok ∙ c.in_ok-far.ensures.finder) refl refl c.in_ok-free.ensures.kept (c.in_ok-free.ensures.policy ∙ c.policy.ensures) (c.in_ok-free.ensures.items ∙ same) (λ i l. c.in_ok-free.ensures.all i (omega (arith, same)))
