use Rattle.std.proofs.Common.{List, None, ◌∙◌, rules, subst, sym}
use Rattle.std.specs.Prelude.{ℕ}
use Rattle.mc_words.specs.declared.shape.Shape.{Shape}
use Rattle.mc_words.specs.Standing.{Agrees}
use Rattle.mc_plan.proofs.Deeds.QuietStates.{agrees_quiet}
use Rattle.mc_plan.specs.Clerks.{shape_of_clerk}
use Rattle.tests.proofs.clerk.look_up.Goals as goal

pub read-held-requires : goal.read-held-requires
read-held-requires c =
    let here = c.requires in
    let s = here.s in
    let agrees = agrees_quiet 1 (shape_of_clerk c.args.clerk.now) s here.knows.books.quiet in
    let words = subst (λ (w : List ℕ). Agrees 1 (shape_of_clerk c.args.clerk.now) w None s.history) (sym (c.as_slice.ensures.value ∙ here.now)) agrees in
    (search rules, (here.knows.books.width, (s.history, subst (λ (sh : Shape). Agrees 1 sh c.as_slice.result.now None s.history) here.shape words)))
