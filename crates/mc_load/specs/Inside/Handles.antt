-- What a worker holds: what it belongs to, and what is known of the answers that it got.
use Rattle.std.specs.Prelude.{ℕ, ⊤, ◌<◌, All, List, [], ◌∷◌, Option, Some, None, length, slice_index_or}
use Rattle.mc_words.specs.History.{IsTrueAnswer}
use Rattle.mc_words.specs.declared.history.Reply.{Reply}
use Rattle.mc_shared.specs.Records.{Opening, ReaderRecord}
use Rattle.mc_shards.specs.Sharded.{Sharded}
use Rattle.mc_check.specs.declared.record.Record.{Record}
use Rattle.mc_load.specs.Loads.{history_after}
use Rattle.mc_load.specs.Lookups.{one_shard}
use Rattle.mc_load.specs.declared.handle.Handle.{Handle}
use Rattle.mc_load.specs.declared.handle.Handle.TheVariants as handle

-- the shards that it belongs to
abbrev pub place_of : {V : ℕ} → Handle V → Sharded
place_of (handle.Cache held) = one_shard held.cache.now
place_of (handle.Desk held) = one_shard held.cache.now
place_of (handle.Shards held) = held.shards.now

-- the records of the readers in it
abbrev pub records_of : {V : ℕ} → Handle V → List ReaderRecord
records_of (handle.Cache held) = held.reader ∷ []
records_of (handle.Desk held) = held.pass ∷ []
records_of (handle.Shards held) = held.pass

-- the cache with no desk that it belongs to
abbrev pub cache_of : {V : ℕ} → Handle V → Option Opening
cache_of (handle.Cache held) = Some held.cache.now
cache_of (handle.Desk held) = None
cache_of (handle.Shards held) = None

-- an answer of a reader with no desk is true of the history that the reader has seen
abbrev pub IsTold : (V : ℕ) → Handle V → ℕ → Reply V → Type 0
IsTold V (handle.Cache held) k reply = IsTrueAnswer (history_after V held.cache.now.layout.shape held.reader.front) k reply
IsTold V (handle.Desk held) k reply = ⊤
IsTold V (handle.Shards held) k reply = ⊤

-- so are the answers to these keys
abbrev pub AreTold : (V : ℕ) → Handle V → List ℕ → List (Reply V) → Type 0
AreTold V h keys replies = (n d : ℕ) (e : Reply V) → n < length keys → IsTold V h (slice_index_or keys n d) (slice_index_or replies n e)

-- and all that were written down
abbrev pub AreAllTold : (V : ℕ) → Handle V → List (Record V) → Type 0
AreAllTold V h records = All (λ (r : Record V). IsTold V h r.key r.reply) records
