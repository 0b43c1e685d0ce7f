-- Which shapes are accepted, and which fault of a refused one is reported.
use Rattle.std.specs.Prelude.{ℕ, ◌≡◌, ◌*◌, ◌^◌, ◌≤◌}
use Rattle.std.specs.Int.{w32, trailing_zeros}
use Rattle.mc_words.specs.declared.shape.Shape.{Shape}
use Rattle.mc_words.specs.declared.shape.ShapeError.{ShapeError}
use Rattle.mc_words.specs.declared.shape.ShapeError.TheVariants.{Buckets, Items, Stripes, Depth, Tries, Limit}

-- the number is 2 to the number of its trailing zeros
abbrev pub IsPower : ℕ → Type 0
IsPower n = n ≡ 2 ^ trailing_zeros w32 n

abbrev pub HasBuckets : Shape → Type 0
HasBuckets sh = (2 ≤ sh.buckets) × (sh.buckets ≤ 2 ^ 20) × IsPower sh.buckets

abbrev pub HasItems : Shape → Type 0
HasItems sh = (1 ≤ sh.items) × (sh.items ≤ 4 * sh.buckets)

abbrev pub HasStripes : Shape → Type 0
HasStripes sh = (1 ≤ sh.stripes) × (sh.stripes ≤ 2 ^ 16) × IsPower sh.stripes

abbrev pub HasDepth : Shape → Type 0
HasDepth sh = sh.depth ≤ 8

abbrev pub HasTries : Shape → Type 0
HasTries sh = (1 ≤ sh.tries) × (sh.tries ≤ 64)

abbrev pub HasLimit : Shape → Type 0
HasLimit sh = sh.limit ≤ 2 ^ 62

-- how many shards there may be
abbrev pub HasShards : ℕ → Type 0
HasShards n = (1 ≤ n) × (n ≤ 256) × IsPower n

-- each field is in its range
pub record IsShape (sh : Shape) : Type 0 where
  pub buckets : HasBuckets sh
  pub items : HasItems sh
  pub stripes : HasStripes sh
  pub depth : HasDepth sh
  pub tries : HasTries sh
  pub limit : HasLimit sh

-- the first fault of the shape
abbrev pub RefusesShape : Shape → ShapeError → Type 0
RefusesShape sh Buckets = ¬ HasBuckets sh
RefusesShape sh Items = HasBuckets sh × (¬ HasItems sh)
RefusesShape sh Stripes = HasBuckets sh × HasItems sh × (¬ HasStripes sh)
RefusesShape sh Depth = HasBuckets sh × HasItems sh × HasStripes sh × (¬ HasDepth sh)
RefusesShape sh Tries = HasBuckets sh × HasItems sh × HasStripes sh × HasDepth sh × (¬ HasTries sh)
RefusesShape sh Limit = HasBuckets sh × HasItems sh × HasStripes sh × HasDepth sh × HasTries sh × (¬ HasLimit sh)
