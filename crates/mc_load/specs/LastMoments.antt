-- The last moment of each shard, as it is looked up when all workers have ended.
use Rattle.std.specs.Prelude.{ℕ, ◌≡◌, ◌⊎◌, List, unwrap_or}
use Rattle.mc_words.specs.declared.history.Reply.{Reply}
use Rattle.mc_shared.specs.Records.{ReaderRecord}
use Rattle.mc_shards.specs.Sharded.{ArePassOf, Sharded, shard_in}
use Rattle.mc_load.specs.Loads.{at_of}
use Rattle.mc_load.specs.Lookups.{HasLookedIn}

-- a pass of these shards looked a key of shard n up, and this is the moment of the reply, or 0 if it was busy
pub record IsLookedUp (V : ℕ) (s : Sharded) (n last : ℕ) : Type 0 where
  pub key : ℕ
  pub here : shard_in s key ≡ n
  pub before : List ReaderRecord
  pub after : List ReaderRecord
  pub of : ArePassOf s after
  pub reply : Reply V
  pub looked : HasLookedIn V s key before after reply
  pub told : last ≡ unwrap_or (at_of reply) 0

-- so it was, or there is no moment
abbrev pub IsLastOf : (V : ℕ) → Sharded → ℕ → ℕ → Type 0
IsLastOf V s n last = (last ≡ 0) ⊎ IsLookedUp V s n last
