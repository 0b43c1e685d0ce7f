-- What the loads before a lookup read: words of the table.
use Rattle.std.specs.Prelude.{ℕ, ◌+◌, ◌^◌, ◌<◌}
use Rattle.mc_words.specs.Places.{all_words}
use Rattle.mc_words.specs.declared.shape.Shape.{Shape}
use Rattle.mc_reader.specs.declared.touches.Aim.{Aim}

-- from this place on there are four words
pub record IsRow (V : ℕ) (sh : Shape) (n : ℕ) : Type 0 where
  pub within : n + 3 < all_words V sh
  pub low : n < 2 ^ 40

-- both rows of slots are within the words
pub record IsAimIn (V : ℕ) (sh : Shape) (a : Aim) : Type 0 where
  pub first : IsRow V sh a.first
  pub second : IsRow V sh a.second
