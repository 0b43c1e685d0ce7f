-- A key that is taken out though no put needs its item: the search for the item that gives way, and its eviction.
use Rattle.std.specs.Prelude.{ℕ, ◌≡◌, ◌+◌, ◌*◌, ◌<◌, ◌≤◌, List, [], ◌∷◌, ◌++◌, Contains, length, map, slice_index_or}
use Rattle.mc_words.specs.Checks.{shape_of}
use Rattle.mc_words.specs.History.{IsWord, key_count}
use Rattle.mc_words.specs.KeyParts.{HasParts}
use Rattle.mc_words.specs.Places.{IsPlace, slot_number}
use Rattle.mc_words.specs.Standing.{NamesItem, Stands}
use Rattle.mc_words.specs.declared.history.Change.TheVariants.{Evict}
use Rattle.mc_words.specs.declared.policy.Policy.{Policy}
use Rattle.mc_words.specs.declared.policy.Policy.TheVariants.{Clock, ScanResistant}
use Rattle.mc_words.specs.declared.shape.Shape.{Shape}
use Rattle.mc_theory.specs.States.{State}
use Rattle.mc_search.specs.Sweeps.{Swept, IsSearch}
use Rattle.mc_plan.specs.Books.{AreBooksOf}
use Rattle.mc_plan.specs.Making.{Makes, state_after_acts}
use Rattle.mc_plan.specs.Plans.{evict_acts}
use Rattle.mc_plan.specs.declared.books.Books.{Books}
use Rattle.mc_plan.specs.declared.decision.Eviction.{Eviction}
use Rattle.mc_plan.specs.declared.decision.Eviction.TheVariants.{Spent, Empty, Search}
use Rattle.mc_plan.specs.declared.decision.Victim.{Victim}

-- before a bit is read: the limit could be passed, or the map holds no key, or it holds some, and the eviction is to have this moment
abbrev pub IsEvictionDecided : (V : ℕ) → Books → State V → Eviction → Type 0
IsEvictionDecided V books s Spent = (shape_of books.checked).limit < s.version_steps + 2
IsEvictionDecided V books s (Empty at) = (key_count s.history ≡ 0) × (at ≡ length s.history)
IsEvictionDecided V books s (Search at) = (s.version_steps + 2 ≤ (shape_of books.checked).limit) × (0 < key_count s.history) × (at ≡ length s.history + 1)

-- the readings of a search in a table with these words: each is of an item that a slot names
pub record IsSearchIn (sh : Shape) (w : List ℕ) (rs : List Swept) : Type 0 where
  pub searches : IsSearch sh.items rs
  pub in_use : (n : ℕ) (d : Swept) → n < length rs → (q : ℕ) × NamesItem sh w q (slice_index_or rs n d).item

-- the items that were read
abbrev pub items_read : List Swept → List ℕ
items_read rs = map (λ (r : Swept). r.item) rs

-- each item that a slot names was read
abbrev pub ReadsAll : Shape → List ℕ → List Swept → Type 0
ReadsAll sh w rs = (q i : ℕ) → NamesItem sh w q i → Contains (items_read rs) i

-- each was read twice: in a first round, and in a second
pub record ReadsAllTwice (sh : Shape) (w : List ℕ) (rs : List Swept) : Type 0 where
  pub first : List Swept
  pub second : List Swept
  pub rounds : rs ≡ first ++ second
  pub first_round : ReadsAll sh w first
  pub second_round : ReadsAll sh w second

-- a search among this many keys that found no clear bit is whole: CLOCK has read each item in use twice, and else there are twice as many readings as keys
abbrev pub IsWholeSearch : Policy → ℕ → Shape → List ℕ → List Swept → Type 0
IsWholeSearch Clock keys sh w rs = ReadsAllTwice sh w rs
IsWholeSearch ScanResistant keys sh w rs = length rs ≡ 2 * keys

-- the key stands at the item, in this slot, and has these parts
pub record IsVictim (V : ℕ) (books : Books) (s : State V) (item : ℕ) (r : Victim) : Type 0 where
  pub word : IsWord r.key
  pub parts : HasParts (shape_of books.checked) r.key r.parts
  pub place : IsPlace (shape_of books.checked) r.place
  pub stands : Stands V (shape_of books.checked) s.words r.key (slot_number r.place) item

-- from the state after a search the eviction of the key at the item takes it out alone, and the books are those of the state after it
pub record IsEvicted (V : ℕ) (books : Books) (m : State V) (item : ℕ) (victim : Victim) : Type 0 where
  pub taken : IsVictim V books m item victim
  pub makes : Makes V (shape_of books.checked) m (evict_acts victim.key victim.place) (Evict victim.key ∷ []) 2
  pub ends : AreBooksOf V books (state_after_acts V (shape_of books.checked) m (evict_acts victim.key victim.place))
