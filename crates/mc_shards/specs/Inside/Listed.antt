-- The entries of shards, from the last shard back to one of them.
use Rattle.std.specs.Prelude.{ℕ, ◌≡◌, ◌==◌, ◌+◌, List, [], ◌∷◌, ◌++◌, filter}
use Rattle.mc_words.specs.Keys.{shard_of}
use Rattle.mc_words.specs.declared.history.Change.{Change}
use Rattle.mc_words.specs.declared.mix.Mix.{Mix}
use Rattle.mc_cache.specs.Plain.{AreEntriesOf}
use Rattle.mc_cache.specs.Stamped.{AreStampedEntriesOf}
use Rattle.mc_shards.specs.Own.{own_of}
use Rattle.mc_writer.specs.declared.entry.Entry.{Entry}

-- the entries of a cache with history h that belong to its shard were added
abbrev pub AddsShard : (V : ℕ) → Mix → ℕ → ℕ → List (Change V) → List (ℕ × List ℕ) → List (ℕ × List ℕ) → Type 0
AddsShard V mix many n h es es' = (all : List (ℕ × List ℕ)) × AreEntriesOf V h all × (es' ≡ es ++ own_of mix many n all)

-- and those with their stamps
abbrev pub own_stamped_of : {V : ℕ} → Mix → ℕ → ℕ → List (Entry V) → List (Entry V)
own_stamped_of mix many n es = filter (λ e. shard_of mix many e.key == n) es

abbrev pub AddsStamped : (V : ℕ) → Mix → ℕ → ℕ → List (Change V) → List (Entry V) → List (Entry V) → Type 0
AddsStamped V mix many n h es es' = (all : List (Entry V)) × AreStampedEntriesOf V h all × (es' ≡ es ++ own_stamped_of mix many n all)

-- the entries of the shards with these histories, of which the first is that of shard n
abbrev pub AreListed : (V : ℕ) → Mix → ℕ → ℕ → List (List (Change V)) → List (ℕ × List ℕ) → Type 0
AreListed V mix many n [] es = es ≡ []
AreListed V mix many n (h ∷ hs) es = (others : List (ℕ × List ℕ)) × AreListed V mix many (n + 1) hs others × AddsShard V mix many n h others es
