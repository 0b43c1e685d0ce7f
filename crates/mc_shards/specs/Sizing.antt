-- The shape that is chosen for shards.
use Rattle.std.specs.Prelude.{ℕ, ◌≡◌, ◌≢◌, ◌+◌, ◌-◌, ◌*◌, ◌/◌, ◌<◌, ◌≤◌, ◌⊎◌, if◌then◌else◌, min, nat_lt}
use Rattle.mc_words.specs.Shapes.{HasShards}
use Rattle.mc_words.specs.Sizing.{CanBeSized, IsSizedFor}
use Rattle.mc_words.specs.declared.shape.Shape.{Shape}
use Rattle.mc_words.specs.declared.shape.ShapeError.TheVariants.{Items}
use Rattle.mc_cache.specs.declared.opening.OpenError.TheVariants as opening
use Rattle.mc_shards.specs.declared.opening.OpenShardsError.{OpenShardsError}
use Rattle.mc_shards.specs.declared.opening.OpenShardsError.TheVariants as error

-- a shard of several gets its mean share of the items, rounded up, and five times the root of it, which is the deviation that hashing makes
pub record IsMeanShare (items shards n : ℕ) : Type 0 where
  pub mean : ℕ
  pub root : ℕ
  pub share : (items ≤ shards * mean) × (shards * mean < items + shards)
  pub deviation : (mean < root * root) × ((root - 1) * (root - 1) ≤ mean)
  pub room : n ≡ mean + 5 * root

-- a single shard gets all items
abbrev pub IsShare : ℕ → ℕ → ℕ → Type 0
IsShare items shards n = ((shards ≡ 1) × (n ≡ items)) ⊎ ((shards ≢ 1) × IsMeanShare items shards n)

-- hashing fills small tables unevenly, so a table for few items has room for twice as many
abbrev pub room_for : ℕ → ℕ
room_for n = if nat_lt n 256 then 2 * n else n

-- the shape with this number of items, and with a shard's part of the stripes: all shards together have 8192 at most
abbrev pub holding : ℕ → ℕ → Shape → Shape
holding shards n sh = record { buckets = sh.buckets; items = n; stripes = min sh.stripes (8192 / shards); depth = sh.depth; tries = sh.tries; limit = sh.limit; mix = sh.mix }

-- the shape of one of so many shards with n items
abbrev pub IsShardShape : ℕ → ℕ → Shape → Type 0
IsShardShape shards n sh = (sized : Shape) × IsSizedFor (room_for n) sized × (sh ≡ holding shards n sized)

-- why there is no such shape: their number is not allowed, there are no items, or a shard's are too many
abbrev pub RefusesShare : ℕ → ℕ → OpenShardsError → Type 0
RefusesShare items shards error.Shards = ¬ HasShards shards
RefusesShare items shards (error.Open why) = (why ≡ opening.Shape Items) × HasShards shards × ((items ≡ 0) ⊎ ((n : ℕ) × IsShare items shards n × (¬ CanBeSized n)))
