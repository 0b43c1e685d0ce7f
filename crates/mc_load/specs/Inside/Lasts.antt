-- The last moments of shards, as they are looked up.
use Rattle.std.specs.Prelude.{ℕ, ◌≡◌, ◌<◌, List, length, slice_index}
use Rattle.mc_words.specs.declared.mix.Mix.{Mix}
use Rattle.mc_check.specs.Changes.{key_in}
use Rattle.mc_shards.specs.Sharded.{Sharded, shard_in}
use Rattle.mc_load.specs.LastMoments.{IsLastOf, IsLookedUp}
use Rattle.mc_load.specs.declared.dated.Dated.{Dated}

-- the shards are as many as this, and keys are mixed so; and each of these is a shard's last moment
pub record AreLasts (V : ℕ) (s : Sharded) (mix : Mix) (shards : ℕ) (lasts : List ℕ) : Type 0 where
  pub mixed : s.shape.mix ≡ mix
  pub many : length s.tables ≡ shards
  pub each : (n : ℕ) → n < length lasts → IsLastOf V s n (slice_index lasts n)

-- the shard of this change was looked up
abbrev pub HasLast : (V : ℕ) → Sharded → List ℕ → Dated V → Type 0
HasLast V s lasts change = let n = shard_in s (key_in change.change) in IsLookedUp V s n (slice_index lasts n)
