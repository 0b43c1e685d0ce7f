use Rattle.std.proofs.Common.{ℕ, List, ◌≡◌, ◌∙◌, ap, subst}
use Rattle.mc_words.specs.Checks.{shape_of}
use Rattle.mc_words.specs.Keys.{tag_of, slot_word}
use Rattle.mc_search.specs.Inside.Readable.{HasNot}
use Rattle.mc_search.proofs.KeySlots.{not_at_item, where_none}
use Rattle.mc_search.proofs.finding.place_of.Goals as goal

pub returns-clause-none : goal.returns-clause-none
returns-clause-none g c =
    let w = g.P.Peek.words c.args.peek.now in
    let sh = shape_of c.args.checked.now in
    let named = c.slot_word-word.result in
    let is : named ≡ slot_word (tag_of sh c.args.key) c.args.i = c.slot_word-word.ensures ∙ ap (λ (t : ℕ). slot_word t c.args.i) c.requires.parts.tag in
    where_none _ _ _ c.slot_with-2.result
    (λ none. not_at_item g.row.V sh w c.args.key c.args.i c.requires.placed
    (subst (λ (y : ℕ × ℕ). HasNot sh w y.0 y.1 4) (λ j. (c.requires.parts.first j, is j)) c.in_default.ensures.none)
    (subst (λ (y : ℕ × ℕ). HasNot sh w y.0 y.1 4) (λ j. (c.requires.parts.second j, is j))
    (subst (λ (v : List ℕ). HasNot sh v c.args.parts.second named 4) (ap g.P.Peek.words c.in_default.ensures.kept) none)))
    c.slot_with-2.ensures.none
