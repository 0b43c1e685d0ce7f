use Rattle.std.proofs.Common.{ap, ◌∙◌}
use Rattle.std.specs.Prelude.{ℕ, List}
use Rattle.mc_words.specs.Checks.{shape_of}
use Rattle.mc_words.specs.History.{map_value}
use Rattle.mc_words.specs.Places.{item, payload}
use Rattle.mc_search.proofs.KeySlots.{held_payload}
use Rattle.mc_search.proofs.reading.held_at.Goals as goal

pub returns-clause-found : goal.returns-clause-found
returns-clause-found g c h k q agrees stands =
    let V = g.row.V in
    let sh = shape_of c.args.checked.now in
    let w = g.P.Peek.words c.args.peek.now in
    let stamp = c.stamp_at-since.ensures.value ∙ ap (λ (x : List ℕ). item V sh x c.args.item (payload V)) (ap g.P.Peek.words c.value_at-value.ensures.kept) in
    held_payload V sh w k q c.args.item c.stamp_at-since.result c.value_at-value.result (map_value h k) (agrees.keys k (λ e. cc)) stands c.value_at-value.ensures.value stamp
