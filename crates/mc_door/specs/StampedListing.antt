-- The entries of a cache with their stamps as words, as a list for C has them.
use Rattle.std.specs.Prelude.{ℕ, ◌≡◌, ◌+◌, ◌*◌, ◌<◌, List, [], ◌∷◌, ◌++◌, length, map}
use Rattle.mc_shards.specs.Holding.{histories}
use Rattle.mc_shards.specs.Plain.{seens}
use Rattle.mc_shards.specs.Stamped.{AreStampedEntriesOfAll}
use Rattle.mc_writer.specs.declared.entry.Entry.{Entry}
use Rattle.mc_door.specs.Held.{IsHeldOff}
use Rattle.mc_door.specs.Listing.{AreWritten, SeesMore}
use Rattle.mc_door.specs.Roles.{Role, Tries, Holds}
use Rattle.mc_door.specs.declared.listed.ListError.{ListError}
use Rattle.mc_door.specs.declared.listed.ListError.TheVariants as why

-- all entries of the histories that the side has made or seen, with their stamps
abbrev pub AreStampedEntries : (V : ℕ) → Role → List (Entry V) → Type 0
AreStampedEntries V (Tries s rs) es = AreStampedEntriesOfAll V s.shape.mix (seens V rs) es
AreStampedEntries V (Holds s h) es = AreStampedEntriesOfAll V s.shape.mix (histories V h) es
AreStampedEntries V role es = ⊥

-- an entry as a key with V + 1 words: its value, and then its stamp
abbrev pub row_of : {V : ℕ} → Entry V → ℕ × List ℕ
row_of entry = (entry.key, entry.value ++ entry.since ∷ [])

-- all entries were written
abbrev pub HasListedStamped : (V : ℕ) → Role → Role → List ℕ → List ℕ → ℕ → Type 0
HasListedStamped V role role' old new count =
    SeesMore V role role' × ((es : List (Entry V)) × AreStampedEntries V role' es × AreWritten (V + 1) (map row_of es) old new count)

-- there are this many entries, and too few words for them
abbrev pub HasMoreStamped : (V : ℕ) → Role → ℕ → ℕ → Type 0
HasMoreStamped V role words count = (es : List (Entry V)) × AreStampedEntries V role es × (count ≡ length es) × (words < count * (2 + V))

-- a try for a turn was held, there are more entries than fit, or there is no memory
abbrev pub RefusesStampedList : (V : ℕ) → Role → Role → ℕ → ListError → Type 0
RefusesStampedList V role role' words why.Held = IsHeldOff role role'
RefusesStampedList V role role' words (why.Count count) = SeesMore V role role' × HasMoreStamped V role' words count
RefusesStampedList V role role' words why.NoMemory = SeesMore V role role'
