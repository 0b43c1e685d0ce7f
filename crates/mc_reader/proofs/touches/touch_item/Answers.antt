use Rattle.std.proofs.Common.{◌<◌, ap, sym, subst, arith}
use Rattle.mc_words.specs.Places.{all_words}
use Rattle.mc_words.specs.declared.shape.Shape.{Shape}
use Rattle.mc_shared.specs.declared.layout.Layout.{Layout}
use Rattle.mc_words.specs.Checks.{shape_of}
use Rattle.mc_reader.proofs.Items.{last_word, item_below}
use Rattle.mc_reader.proofs.touches.touch_item.Goals as goal

pub item_place-last-requires-clause-word : goal.item_place-last-requires-clause-word
item_place-last-requires-clause-word g c = last_word g.row.V

pub touch-requires-2 : goal.touch-requires-2
touch-requires-2 g c =
    let V = g.row.V in
    let shape = ap (λ (l : Layout). l.shape) c.requires.layout in
    let below = item_below V (shape_of c.args.checked.now) c.args.i V c.requires.item (last_word V) in
    (omega arith, subst (λ (sh : Shape). c.item_place-last.result < all_words V sh) (sym shape) (rw c.item_place-last.ensures below))
