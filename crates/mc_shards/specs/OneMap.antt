-- Shards are one map: what a call that changes the history of one shard does to the map of all, key by key.
use Rattle.std.specs.Prelude.{ℕ, ◌≡◌, ◌≢◌, ◌<◌, List, [], ◌∷◌, ◌++◌, All, Some, None, length, slice_set}
use Rattle.mc_words.specs.History.{map_value}
use Rattle.mc_words.specs.Keys.{shard_of}
use Rattle.mc_words.specs.declared.history.Change.{Change}
use Rattle.mc_words.specs.declared.history.Reply.{Reply}
use Rattle.mc_words.specs.declared.mix.Mix.{Mix}
use Rattle.mc_cache.specs.Plain.{HasPut, moment_of}
use Rattle.mc_cache.specs.Put.{Put}
use Rattle.mc_plan.specs.declared.answer.Put.TheVariants.{Stored, Renewed}
use Rattle.mc_shards.specs.Plain.{AllBegin, HasAnswered, Tells, plain_of}
use Rattle.mc_shards.specs.Sharded.{ChangesAt}

-- the put evicted no such key
abbrev pub Spares : ℕ → Put → Type 0
Spares q (Stored at moves None) = Unit {0}
Spares q (Stored at moves (Some other)) = q ≢ other
Spares q (Renewed at) = Unit {0}

-- when the history of one shard becomes another, the map keeps what it holds of the keys of other shards. Of a key of that shard it holds
-- what the shard's map does
pub record IsLocal (V : ℕ) : Type 0 where
  pub others : (mix : Mix) (n : ℕ) (hs : List (List (Change V))) (h : List (Change V)) (k : ℕ) → shard_of mix (length hs) k ≢ n → plain_of mix (slice_set hs n h) k ≡ plain_of mix hs k
  pub own : (mix : Mix) (hs : List (List (Change V))) (h : List (Change V)) (k : ℕ) → shard_of mix (length hs) k < length hs → plain_of mix (slice_set hs (shard_of mix (length hs) k) h) k ≡ map_value h k

-- what puts and lookups mean for the one map
pub record OneMap (V : ℕ) : Type 0 where
  -- new shards hold nothing
  pub empty : (mix : Mix) (hs : List (List (Change V))) (k : ℕ) → All (λ h. h ≡ []) hs → plain_of mix hs k ≡ None
  pub local : IsLocal V
  -- a put gives its key the value, with the put's moment after it, and leaves each other key but one that it evicts
  pub puts : (mix : Mix) (hs hs' : List (List (Change V))) (k : ℕ) (v : List ℕ) (told : Put) → ChangesAt (shard_of mix (length hs) k) hs hs' (λ h h'. HasPut V h h' k v told)
      → (plain_of mix hs' k ≡ Some (v ++ moment_of told ∷ [])) × ((q : ℕ) → q ≢ k → Spares q told → plain_of mix hs' q ≡ plain_of mix hs q)
  -- a lookup's reply is what the one map held at some instant between what had been seen of all shards before it and after it
  pub answers : (mix : Mix) (hs hs' : List (List (Change V))) (k : ℕ) (reply : Reply V) → ChangesAt (shard_of mix (length hs) k) hs hs' (λ h h'. HasAnswered V h h' k reply)
      → (then : List (List (Change V))) × AllBegin hs then × AllBegin then hs' × Tells mix then k reply
