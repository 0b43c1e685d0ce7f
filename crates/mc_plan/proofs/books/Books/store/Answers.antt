use Rattle.std.proofs.Common.{ℕ, ◌≡◌, ◌+◌, ◌*◌, ap, arith, length, refl, subst, sym}
use Rattle.mc_search.specs.Paths.{path_of_room}
use Rattle.mc_search.specs.declared.room.Room.{Room}
use Rattle.mc_plan.specs.declared.books.Books.{Books}
use Rattle.mc_plan.proofs.Calls.AfterPlan.{with_far}
use Rattle.mc_plan.proofs.books.Books.store.Goals as goal

pub returns-in-Hole-clause-books : goal.returns-in-Hole-clause-books
returns-in-Hole-clause-books g c =
    let b : Books = c.args.self.now in
    let changes = c.args.changes in
    let none : changes ≡ 0 + changes = omega arith in
    let counted : record b { version_steps = b.version_steps + changes } ≡ record b { version_steps = b.version_steps + (0 + changes) } = ap (λ (n : ℕ). record b { version_steps = b.version_steps + n }) none in
    subst (λ (r : Room). (record b { version_steps = b.version_steps + changes }) ≡ with_far (record b { version_steps = b.version_steps + (2 * length (path_of_room b.far.value.path r).places.items + changes) }) (record b.far.value { moves = b.far.value.moves })) (sym c.in-Hole.is) counted

pub returns-in-Move-clause-books : goal.returns-in-Move-clause-books
returns-in-Move-clause-books g c =
    let b : Books = c.args.self.now in
    let changes = c.args.changes in
    subst (λ (r : Room). (record b { version_steps = b.version_steps + (2 + changes) }) ≡ with_far (record b { version_steps = b.version_steps + (2 * length (path_of_room b.far.value.path r).places.items + changes) }) (record b.far.value { moves = b.far.value.moves })) (sym c.in-Move.is) refl
