-- Where the recency bit of an item is: the one place that says so.
use Rattle.std.specs.Prelude.{ℕ, ◌+◌, ◌/◌, ◌%◌}
use Rattle.mc_words.specs.declared.shape.Shape.{Shape}

-- the recency word that holds the bit of an item: 64 items share one
unfoldable pub recency_word : ℕ → ℕ
recency_word i = i / 64

-- the bit's number in that word
unfoldable pub recency_bit : ℕ → ℕ
recency_bit i = i % 64

-- how many recency words there are
unfoldable pub recency_words : Shape → ℕ
recency_words sh = (sh.items + 63) / 64
