-- Where the items and the recency words begin.
use Rattle.std.specs.Prelude.{ℕ, ◌≡◌, ◌^◌, ◌<◌}
use Rattle.mc_words.specs.declared.shape.Shape.{Shape}
use Rattle.mc_words.specs.Places.{item_place, word_count}

-- the items and the recency words begin at these places
pub record AreStarts (V : ℕ) (sh : Shape) (items recency : ℕ) : Type 0 where
  pub items_at : items ≡ item_place V sh 0 0
  pub recency_at : recency ≡ word_count V sh
  pub items_small : items < 2 ^ 40
  pub recency_small : recency < 2 ^ 40
