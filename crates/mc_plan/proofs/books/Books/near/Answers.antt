use Rattle.std.proofs.Common.{ℕ, List, ◌∙◌, ap, subst}
use Rattle.mc_words.specs.Chains.{NoChain}
use Rattle.mc_words.specs.Checks.{shape_of}
use Rattle.mc_search.specs.Paths.{IsLeastPath, direct_path}
use Rattle.mc_plan.proofs.books.Books.near.Goals as goal

pub returns-in-Some-clause-room : goal.returns-in-Some-clause-room
returns-in-Some-clause-room g c k at v s lacks parts same =
    record { lacks = lacks; least = subst (λ (w : List ℕ). IsLeastPath (shape_of c.args.self.now.checked) w k (direct_path c.in-Some.hole)) (ap g.P.Peek.words c.look_ahead.ensures.kept ∙ same) (c.in-Some.ensures.found k parts) }

pub returns-in-None-clause-room : goal.returns-in-None-clause-room
returns-in-None-clause-room g c k at v s lacks parts same =
    record { lacks = lacks; full = subst (λ (w : List ℕ). NoChain (shape_of c.args.self.now.checked) w k 0) (ap g.P.Peek.words c.look_ahead.ensures.kept ∙ same) (c.in-None.ensures.none k parts) }
