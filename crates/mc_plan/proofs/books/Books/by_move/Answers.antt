use Rattle.std.proofs.Common.{ℕ, List, subst, sym}
use Rattle.mc_words.specs.Chains.{NoChain}
use Rattle.mc_words.specs.Checks.{shape_of}
use Rattle.mc_search.specs.Paths.{IsLeastPath, path_of_move}
use Rattle.mc_plan.proofs.books.Books.by_move.Goals as goal

pub find_move-requires-clause-crowded : goal.find_move-requires-clause-crowded
find_move-requires-clause-crowded g c =
    let r = c.requires.crowded in
    (r.0, record { has = r.5; full = subst (λ (w : List ℕ). NoChain (shape_of c.args.self.now.checked) w r.0 0) (sym r.6) r.4.full })

pub returns-in-Some-clause-room : goal.returns-in-Some-clause-room
returns-in-Some-clause-room g c k at v s crowded parts same =
    let sh = shape_of c.args.self.now.checked in
    let full = subst (λ (w : List ℕ). NoChain sh w k 0) (sym same) crowded.full in
    record { lacks = crowded.lacks; least = subst (λ (w : List ℕ). IsLeastPath sh w k (path_of_move c.in-Some.one)) same (c.in-Some.ensures.found k (record { has = parts; full = full })) }
