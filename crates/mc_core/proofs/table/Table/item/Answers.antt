use Rattle.std.proofs.Common.{◌∙◌, ap, get_or, ◌<◌, arith, length}
use Rattle.std.proofs.lemmas.List.{get_or_default}
use Rattle.mc_words.proofs.Places.{row_below}
use Rattle.mc_words.specs.Places.{item, payload}
use Rattle.mc_core.specs.Inside.Tables.{shape_of_table}
use Rattle.mc_core.proofs.table.Table.item.Goals as goal

pub returns : goal.returns
unfolding item
returns g c =
    let t = c.args.self.now in
    let below : c.item_place.result < length t.words.items = omega (arith, c.item_place.ensures, t.size, row_below (payload g.row.V) c.args.i c.args.j (shape_of_table t).items c.requires.item c.requires.word) in
    c.index.ensures ∙ get_or_default t.words.items c.item_place.result c.index.result.now 0 below ∙ ap (λ n. get_or t.words.items n 0) c.item_place.ensures
