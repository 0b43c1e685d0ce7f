-- What the calls of shards mean for whoever uses them: the clauses `plain`. What a pass has seen is a list of histories, one of each
-- shard. They are those of one map, whose part of a key is kept by the key's shard.
use Rattle.std.specs.Prelude.{ℕ, ◌≡◌, ◌≢◌, ◌==◌, List, [], ◌∷◌, ◌++◌, AllPairs, EachIndex, Option, Some, None, length, map, slice_index, slice_index_or}
pub use Rattle.mc_cache.specs.Plain.{Begins, HasAnswered, PeekMeans, PutIfAbsentMeans, PutIfMeans, PutMeans, RemovalMeans, TurnMeans}
pub use Rattle.mc_cache.specs.Taking.{SwapIfMeans, SwapMeans, TakeIfMeans, TakeMeans}
use Rattle.std.specs.Map.{lookup}
use Rattle.mc_cache.specs.Plain.{seen, map_value}
use Rattle.mc_words.specs.History.{value_held}
use Rattle.mc_words.specs.Keys.{shard_of}
use Rattle.mc_words.specs.declared.history.Change.{Change}
use Rattle.mc_words.specs.declared.history.Reply.{Reply}
use Rattle.mc_words.specs.declared.history.Reply.TheVariants.{Found, Absent, Busy}
use Rattle.mc_words.specs.declared.mix.Mix.{Mix}
use Rattle.mc_shared.specs.Records.{ReaderRecord}

-- what a pass has seen of each shard
abbrev pub seens : (V : ℕ) → List ReaderRecord → List (List (Change V))
seens V rs = map (seen V) rs

-- the history of the key's shard
abbrev pub history_of : {V : ℕ} → Mix → List (List (Change V)) → ℕ → List (Change V)
history_of mix hs k = slice_index_or hs (shard_of mix (length hs) k) []

-- what the one map holds of the key: what its shard's map does
abbrev pub plain_of : {V : ℕ} → Mix → List (List (Change V)) → ℕ → Option (List ℕ)
plain_of mix hs k = map_value (history_of mix hs k) k

-- each history of the one list begins that of the other, shard by shard
abbrev pub AllBegin : {V : ℕ} → List (List (Change V)) → List (List (Change V)) → Type 0
AllBegin [] [] = Unit {0}
AllBegin (h ∷ hs) (h' ∷ hs') = Begins h h' × AllBegin hs hs'
AllBegin hs hs' = ⊥

-- the reply is what the one map held of the key
abbrev pub Tells : {V : ℕ} → Mix → List (List (Change V)) → ℕ → Reply V → Type 0
Tells mix hs k (Found v at since) = plain_of mix hs k ≡ Some (v ++ since ∷ [])
Tells mix hs k (Absent at) = plain_of mix hs k ≡ None
Tells mix hs k Busy = Unit {0}

-- each reply is what the one map held of its key, as by a lookup of its own
abbrev pub AllAnswered : (V : ℕ) → Mix → List (List (Change V)) → List (List (Change V)) → List ℕ → List (Reply V) → Type 0
AllAnswered V mix hs hs' ks rs = EachIndex ks (λ i. HasAnswered V (history_of mix hs (slice_index ks i)) (history_of mix hs' (slice_index ks i)) (slice_index ks i) (slice_index_or rs i Busy))

-- the entries have the value that the one map holds for each key, and have no key twice
pub record AreEntriesOfAll (V : ℕ) (mix : Mix) (hs : List (List (Change V))) (es : List (ℕ × List ℕ)) : Type 0 where
  pub values : (k : ℕ) → lookup (λ q. k == q) es ≡ value_held (history_of mix hs k) k
  pub once : AllPairs (λ d e. d.0 ≢ e.0) es
