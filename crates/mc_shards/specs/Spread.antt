-- Keys of one shard have all tags, first buckets and stripes.
use Rattle.std.specs.Prelude.{ℕ, ◌≡◌, ◌^◌, ◌<◌}
use Rattle.mc_words.specs.Keys.{first_of, shard_of, stripe_of, tag_of}
use Rattle.mc_words.specs.Shapes.{HasShards, IsShape}
use Rattle.mc_words.specs.declared.mix.Mix.TheVariants.{Plain}
use Rattle.mc_words.specs.declared.shape.Shape.{Shape}

-- a mixed key with these parts
pub record HasParts (sh : Shape) (shards tag bucket stripe shard k : ℕ) : Type 0 where
  pub word : k < 2 ^ 64
  pub has_tag : tag_of sh k ≡ tag
  pub has_bucket : first_of sh k ≡ bucket
  pub has_stripe : stripe_of sh k ≡ stripe
  pub has_shard : shard_of sh.mix shards k ≡ shard

-- if keys are not mixed, each choice of a tag, a first bucket, a stripe and a shard belongs to some key
abbrev pub Spreads : Type 0
Spreads = (sh : Shape) (shards tag bucket stripe shard : ℕ) → IsShape sh → HasShards shards → sh.mix ≡ Plain → tag < 256 → bucket < sh.buckets → stripe < sh.stripes → shard < shards → (k : ℕ) × HasParts sh shards tag bucket stripe shard k
