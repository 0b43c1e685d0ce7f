-- Where the words of an item are.
use Rattle.std.proofs.Common.{ℕ, ◌<◌, ◌≤◌, arith}
use Rattle.mc_words.specs.Places.{all_words, item_place, payload}
use Rattle.mc_words.specs.declared.shape.Shape.{Shape}
use Rattle.mc_words.proofs.Places.{row_below}

pub last_word : (V : ℕ) → V ≤ payload V
unfolding payload
last_word V = omega arith

pub item_below : (V : ℕ) (sh : Shape) (i j : ℕ) → i < sh.items → j ≤ payload V → item_place V sh i j < all_words V sh
item_below V sh i j low fits = omega (arith, row_below (payload V) i j sh.items low fits)
