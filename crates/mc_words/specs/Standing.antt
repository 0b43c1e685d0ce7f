-- Where a key stands in the words, and when the words agree with a history.
use Rattle.std.specs.Prelude.{ℕ, ◌≡◌, ◌≢◌, ◌+◌, ◌*◌, ◌/◌, ◌%◌, ◌<◌, ◌≤◌, ◌⊎◌, ◌==◌, if◌then◌else◌, List, length, Option, Some, None, slice_index}
use Rattle.mc_words.specs.declared.history.Change.{Change}
use Rattle.mc_words.specs.declared.shape.Shape.{Shape}
use Rattle.mc_words.specs.History.{map_value}
use Rattle.mc_words.specs.Keys.{tag_of, stripe_of, slot_word, IsBucketOf}
use Rattle.mc_words.specs.Places.{payload, word_count, moment, version, slot, item}

-- the slot names the item
pub record NamesItem (sh : Shape) (w : List ℕ) (q i : ℕ) : Type 0 where
  pub tag : ℕ
  pub in_table : q < 4 * sh.buckets
  pub in_items : i < sh.items
  pub is_tag : tag < 256
  pub word : slot sh w q ≡ slot_word tag i

-- the key stands in the slot, at the item
pub record Stands (V : ℕ) (sh : Shape) (w : List ℕ) (k q i : ℕ) : Type 0 where
  pub names : NamesItem sh w q i
  pub key : item V sh w i 0 ≡ k

abbrev pub IsAbsent : ℕ → Shape → List ℕ → ℕ → Type 0
IsAbsent V sh w k = (q i : ℕ) → Stands V sh w k q i → ⊥

abbrev pub IsPresent : ℕ → Shape → List ℕ → ℕ → Type 0
IsPresent V sh w k = (q : ℕ) × (i : ℕ) × Stands V sh w k q i

-- no slot names the item
abbrev pub IsFree : Shape → List ℕ → ℕ → Type 0
IsFree sh w i = (q : ℕ) → NamesItem sh w q i → ⊥

abbrev pub HasFree : Shape → List ℕ → Type 0
HasFree sh w = (i : ℕ) × (i < sh.items) × IsFree sh w i

abbrev pub IsEmpty : Shape → List ℕ → ℕ → Type 0
IsEmpty sh w q = (q < 4 * sh.buckets) × (slot sh w q ≡ 0)

-- the first words after an item's key are these
abbrev pub ItemBegins : ℕ → Shape → List ℕ → ℕ → List ℕ → Type 0
ItemBegins V sh w i xs = (j : ℕ) → j < length xs → item V sh w i (j + 1) ≡ slice_index xs j

-- all words after an item's key are these
abbrev pub HasPayload : ℕ → Shape → List ℕ → ℕ → List ℕ → Type 0
HasPayload V sh w i xs = (length xs ≡ payload V) × ItemBegins V sh w i xs

-- where the key stands is one slot, in a bucket of the key and under its tag
pub record OnlyAt (V : ℕ) (sh : Shape) (w : List ℕ) (k q i : ℕ) : Type 0 where
  pub stands : Stands V sh w k q i
  pub once : (p g : ℕ) → Stands V sh w k p g → (p ≡ q) × (g ≡ i)
  pub tagged : slot sh w q ≡ slot_word (tag_of sh k) i
  pub placed : IsBucketOf sh k (q / 4)

-- what the words say of the key is what the map says of it
abbrev pub AgreesAt : ℕ → Shape → List ℕ → ℕ → Option (List ℕ) → Type 0
AgreesAt V sh w k None = IsAbsent V sh w k
AgreesAt V sh w k (Some held) = (q : ℕ) × (i : ℕ) × OnlyAt V sh w k q i × HasPayload V sh w i held

-- 1 if the stripe is that of the running deed's key
abbrev pub odd_at : Shape → Option ℕ → ℕ → ℕ
odd_at sh None t = 0
odd_at sh (Some k) t = if stripe_of sh k == t then 1 else 0

-- the words agree with the history, but for the key of a deed that runs
pub record Agrees (V : ℕ) (sh : Shape) (w : List ℕ) (running : Option ℕ) (h : List (Change V)) : Type 0 where
  pub size : word_count V sh ≤ length w
  pub at_moment : moment w ≡ length h
  pub filled : (q : ℕ) → q < 4 * sh.buckets → (slot sh w q ≡ 0) ⊎ ((i : ℕ) × NamesItem sh w q i)
  pub versions : (t : ℕ) → t < sh.stripes → version w t % 2 ≡ odd_at sh running t
  pub keys : (k : ℕ) → running ≢ Some k → AgreesAt V sh w k (map_value h k)
