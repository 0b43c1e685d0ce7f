-- What a reader looks up by a pass of shards, one key after the other.
use Rattle.std.specs.Prelude.{ℕ, ◌≡◌, List, [], ◌∷◌, map}
use Rattle.mc_words.specs.declared.history.Reply.{Reply}
use Rattle.mc_shared.specs.Records.{Opening, ReaderRecord}
use Rattle.mc_check.specs.declared.record.Record.{Record}
use Rattle.mc_cache.specs.Turns.{HasLookedOrMet}
use Rattle.mc_shards.specs.Sharded.{ArePassOf, ChangesAt, Sharded, shard_in}

-- a cache as one shard; nothing is said of its lock here, so none is listed
abbrev pub one_shard : Opening → Sharded
one_shard o = record { shape = o.layout.shape; tables = o ∷ []; locks = [] }

-- the key was looked up in its shard, with this reply; a lookup that was busy may have had the shard's turn
abbrev pub HasLookedIn : (V : ℕ) → Sharded → ℕ → List ReaderRecord → List ReaderRecord → Reply V → Type 0
HasLookedIn V s k before after reply = ChangesAt (shard_in s k) before after (λ r r'. HasLookedOrMet V s.shape k r r' reply)

-- these keys were looked up, one after the other, with these replies, and nothing else was done with the pass
abbrev pub HaveLookedIn : (V : ℕ) → Sharded → List ℕ → List ReaderRecord → List ReaderRecord → List (Reply V) → Type 0
HaveLookedIn V s [] before after [] = after ≡ before
HaveLookedIn V s (k ∷ ks) before after (r ∷ rs) = (mid : List ReaderRecord) × HasLookedIn V s k before mid r × HaveLookedIn V s ks mid after rs
HaveLookedIn V s [] before after (r ∷ rs) = ⊥
HaveLookedIn V s (k ∷ ks) before after [] = ⊥

abbrev pub keys_in : {V : ℕ} → List (Record V) → List ℕ
keys_in {V} records = map (λ (r : Record V). r.key) records

abbrev pub replies_in : {V : ℕ} → List (Record V) → List (Reply V)
replies_in {V} records = map (λ (r : Record V). r.reply) records

-- each of these answers is that of a lookup of the key beside it
abbrev pub AreLookups : {V : ℕ} → Sharded → List ReaderRecord → List ReaderRecord → List (Record V) → Type 0
AreLookups {V} s before after records = HaveLookedIn V s (keys_in records) before after (replies_in records)

-- a pass of these shards got these answers so
pub record HasGot {V : ℕ} (s : Sharded) (records : List (Record V)) : Type 0 where
  pub before : List ReaderRecord
  pub after : List ReaderRecord
  pub of : ArePassOf s after
  pub looked : AreLookups s before after records
