use Rattle.std.proofs.Common.{ℕ, List, ◌∙◌, ap, subst}
use Rattle.mc_words.specs.Checks.{shape_of}
use Rattle.mc_search.specs.Inside.Readable.{IsNotAmong}
use Rattle.mc_search.proofs.KeySlots.{absent_from-buckets, where_none}
use Rattle.mc_search.proofs.finding.find_by.Goals as goal

pub returns-clause-none : goal.returns-clause-none
returns-clause-none g c =
    let w = g.P.Peek.words c.args.peek.now in
    let sh = shape_of c.args.checked.now in
    let k = c.args.key in
    let touched = ap g.P.Peek.words c.touch_bucket_if_large.ensures.kept in
    where_none _ _ _ c.find_in-2.result
    (λ none. absent_from-buckets g.row.V sh w k c.requires.placed
    (subst (λ (b : ℕ). IsNotAmong g.row.V sh w k b 4) c.requires.parts.first
    (subst (λ (v : List ℕ). IsNotAmong g.row.V sh v k c.args.parts.first 4) touched c.in_default.ensures.none))
    (subst (λ (b : ℕ). IsNotAmong g.row.V sh w k b 4) c.requires.parts.second
    (subst (λ (v : List ℕ). IsNotAmong g.row.V sh v k c.args.parts.second 4) (ap g.P.Peek.words c.in_default.ensures.kept ∙ touched) none)))
    c.find_in-2.ensures.none
