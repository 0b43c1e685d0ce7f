-- The parts of a key as one value.
use Rattle.std.specs.Prelude.{ℕ, ◌≡◌, ◌<◌}
use Rattle.mc_words.specs.declared.key_parts.KeyParts.{KeyParts}
use Rattle.mc_words.specs.declared.shape.Shape.{Shape}
use Rattle.mc_words.specs.Keys.{tag_of, first_of, second_of, stripe_of}

-- the key has these parts in a table of this shape
pub record HasParts (sh : Shape) (k : ℕ) (parts : KeyParts) : Type 0 where
  pub tag : parts.tag ≡ tag_of sh k
  pub first : parts.first ≡ first_of sh k
  pub second : parts.second ≡ second_of sh k
  pub stripe : parts.stripe ≡ stripe_of sh k
  pub first_in_table : parts.first < sh.buckets
  pub second_in_table : parts.second < sh.buckets
  pub stripe_in_table : parts.stripe < sh.stripes
