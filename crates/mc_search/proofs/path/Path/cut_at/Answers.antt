use Rattle.std.proofs.Common.{List, inr, refl, subst, take}
use Rattle.std.specs.Prelude.{Contains, Some, slice_get, ◌≡◌}
use Rattle.mc_words.specs.declared.place.Place.{Place}
use Rattle.mc_search.specs.Paths.{IsCut}
use Rattle.mc_search.proofs.CutChains.{cut_chain, cut_found}
use Rattle.mc_search.proofs.path.Path.cut_at.Goals as goal
use Rattle.mc_search.proofs.path.Path.cut_at.Goals.{After-truncate}

-- the path is cut at the first place that is the victim's
cut : (c : After-truncate) → IsCut c.args.victim c.args.self.now.places.items c.args.self.now.hole c.truncate.new.self.items c.args.victim
cut c =
    let ps = c.args.self.now.places.items in
    let n = c.in-Some.n in
    let same = c.as_slice.ensures.value in
    let at = subst (λ (xs : List Place). slice_get xs n ≡ Some c.args.victim) same c.in-Some.ensures.found in
    let first = subst (λ (xs : List Place). Contains (take n xs) c.args.victim → ⊥) same c.in-Some.ensures.first in
    cut_found ps n c.args.victim c.args.self.now.hole c.truncate.new.self.items at first c.truncate.ensures.items

pub returns-in-Some-clause-cut : goal.returns-in-Some-clause-cut
returns-in-Some-clause-cut c = cut (goal.at.returns-in-Some-clause-cut c).After-truncate

pub returns-in-Some-clause-chain : goal.returns-in-Some-clause-chain
returns-in-Some-clause-chain c sh w later k is chain set =
    cut_chain sh w later k c.args.victim c.args.self.now.places.items c.args.self.now.hole c.truncate.new.self.items c.args.victim (cut (goal.at.returns-in-Some-clause-chain c).After-truncate) is chain set

pub returns-in_default-clause-chain : goal.returns-in_default-clause-chain
returns-in_default-clause-chain c sh w later k is chain set =
    let ps = c.args.self.now.places.items in
    let off = subst (λ (xs : List Place). Contains xs c.args.victim → ⊥) c.as_slice.ensures.value c.in_default.ensures.none in
    cut_chain sh w later k c.args.victim ps c.args.self.now.hole ps c.args.self.now.hole (inr (off, refl, refl)) is chain set
