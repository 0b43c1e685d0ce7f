-- The recency bits as they are packed in words.
use Rattle.std.specs.Prelude.{ℕ, ◌≡◌, ◌≢◌, ◌^◌, ◌<◌, List, slice_index}
use Rattle.std.specs.Int.{bit_at}
use Rattle.mc_words.specs.Places.{recency_place}
use Rattle.mc_words.specs.Recency.{recency_bit}
use Rattle.mc_words.specs.declared.shape.Shape.{Shape}

-- the word at this place has the bits of the items whose bits are there, and no other
pub record HasBits (V : ℕ) (sh : Shape) (bits : List ℕ) (place word : ℕ) : Type 0 where
  pub small : word < 2 ^ 64
  pub each : (i : ℕ) → i < sh.items → recency_place V sh i ≡ place → bit_at word (recency_bit i) ≡ slice_index bits i
  pub others : (b : ℕ) → ((i : ℕ) → i < sh.items → recency_place V sh i ≡ place → recency_bit i ≢ b) → bit_at word b ≡ 0
