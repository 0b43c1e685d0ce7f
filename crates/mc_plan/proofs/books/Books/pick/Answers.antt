use Rattle.std.proofs.Common.{◌≡◌, ◌∙◌, arith}
use Rattle.mc_plan.proofs.Calls.Picks.{few_items, keys_within, picks_now}
use Rattle.mc_plan.proofs.books.Books.pick.Goals as goal

pub overflow_cast-key_count : goal.overflow_cast-key_count
overflow_cast-key_count c =
    let known = c.requires.books.2 in
    let few = few_items c.args.self.now.free known.kept (known.policy ∙ c.requires.policy) in
    omega (arith, few, keys_within _ c.args.self.now _ known, c.key_count.ensures _ _ known)

pub start-requires : goal.start-requires
start-requires c =
    let known = c.requires.books.2 in
    let few = few_items c.args.self.now.free known.kept (known.policy ∙ c.requires.policy) in
    omega (arith, few, keys_within _ c.args.self.now _ known, c.key_count.ensures _ _ known)

pub returns-clause-picking : goal.returns-clause-picking
returns-clause-picking c =
    let known = c.requires.books.2 in
    picks_now c.args.self.now.free c.start.result known.kept (known.policy ∙ c.requires.policy)
    (λ choice is. c.start.ensures.picked choice (omega (arith, is, keys_within _ c.args.self.now _ known, c.key_count.ensures _ _ known)))
