-- The entries of a cache as words, as a list for C has them.
use Rattle.std.specs.Prelude.{ℕ, ◌≡◌, ◌+◌, ◌*◌, ◌<◌, List, [], ◌∷◌, ◌++◌, drop, length}
use Rattle.mc_words.specs.declared.no_memory.NoMemory.{NoMemory}
use Rattle.mc_cache.specs.declared.desk.DeskError.{DeskError}
use Rattle.mc_cache.specs.declared.desk.DeskError.TheVariants as desk
use Rattle.mc_shards.specs.Holding.{histories}
use Rattle.mc_shards.specs.Plain.{AllBegin, AreEntriesOfAll, seens}
use Rattle.mc_shards.specs.Unlisted.{HasStopped}
use Rattle.mc_door.specs.Roles.{Role, Tries, Holds}
use Rattle.mc_door.specs.declared.listed.ListError.{ListError}
use Rattle.mc_door.specs.declared.listed.ListError.TheVariants as why

-- a pass may have seen more of the histories. A holder is unchanged
abbrev pub SeesMore : (V : ℕ) → Role → Role → Type 0
SeesMore V (Tries s rs) (Tries s' rs') = (s' ≡ s) × AllBegin (seens V rs) (seens V rs')
SeesMore V (Holds s h) (Holds s' h') = (s' ≡ s) × (h' ≡ h)
SeesMore V _ _ = ⊥

-- all entries of the histories that the side has made or seen
abbrev pub AreEntries : (V : ℕ) → Role → List (ℕ × List ℕ) → Type 0
AreEntries V (Tries s rs) es = AreEntriesOfAll V s.shape.mix (seens V rs) es
AreEntries V (Holds s h) es = AreEntriesOfAll V s.shape.mix (histories V h) es
AreEntries V role es = ⊥

-- the entries one after the other, each as its key and then its value
abbrev pub words_of : List (ℕ × List ℕ) → List ℕ
words_of [] = []
words_of (e ∷ es) = e.0 ∷ e.1 ++ words_of es

-- these entries were written, and the words after them are unchanged
pub record AreWritten (V : ℕ) (es : List (ℕ × List ℕ)) (old new : List ℕ) (count : ℕ) : Type 0 where
  pub many : count ≡ length es
  pub words : new ≡ words_of es ++ drop (count * (1 + V)) old

-- all entries were written
abbrev pub HasListed : (V : ℕ) → Role → List ℕ → List ℕ → ℕ → Type 0
HasListed V role old new count = (es : List (ℕ × List ℕ)) × AreEntries V role es × AreWritten V es old new count

-- there are this many entries, and too few words for them
abbrev pub HasMore : (V : ℕ) → Role → ℕ → ℕ → Type 0
HasMore V role words count = (es : List (ℕ × List ℕ)) × AreEntries V role es × (count ≡ length es) × (words < count * (1 + V))

-- the side was the one before the list and is the other after it, and the list was stopped for this reason. A holder is held by nobody
abbrev pub HasStoppedList : (V : ℕ) → DeskError NoMemory → Role → Role → Type 0
HasStoppedList V desk.Held (Holds s h) (Holds s' h') = ⊥
HasStoppedList V (desk.Call none) (Holds s h) (Holds s' h') = (s' ≡ s) × (h' ≡ h)
HasStoppedList V why (Tries s rs) (Tries s' rs') = (s' ≡ s) × HasStopped V rs rs' why
HasStoppedList V why _ _ = ⊥

-- a try for a turn was held, there are more entries than fit, or there is no memory
abbrev pub RefusesList : (V : ℕ) → Role → Role → ℕ → ListError → Type 0
RefusesList V role role' words why.Held = HasStoppedList V desk.Held role role'
RefusesList V role role' words (why.Count count) = HasMore V role' words count
RefusesList V role role' words why.NoMemory = (none : NoMemory) × HasStoppedList V (desk.Call none) role role'
