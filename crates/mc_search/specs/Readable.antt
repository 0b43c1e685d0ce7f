-- What a search needs of the words that it reads.
use Rattle.std.specs.Prelude.{ℕ, ◌≡◌, ◌*◌, ◌/◌, ◌<◌, ◌≤◌, ◌⊎◌, List, length}
use Rattle.mc_words.specs.declared.shape.Shape.{Shape}
use Rattle.mc_words.specs.Keys.{tag_of, slot_word, IsBucketOf}
use Rattle.mc_words.specs.Places.{slot_place, slot}
use Rattle.mc_words.specs.Standing.{NamesItem, Stands}

-- the words reach as far as the last slot
abbrev pub HasSlots : Shape → List ℕ → Type 0
HasSlots sh w = slot_place sh (4 * sh.buckets) ≤ length w

-- each slot is empty or names an item
abbrev pub IsFilled : Shape → List ℕ → Type 0
IsFilled sh w = (q : ℕ) → q < 4 * sh.buckets → (slot sh w q ≡ 0) ⊎ ((i : ℕ) × NamesItem sh w q i)

-- where the key stands in the slot, it stands under its tag, in a bucket of the key
abbrev pub IsPlacedAt : ℕ → Shape → List ℕ → ℕ → ℕ → Type 0
IsPlacedAt V sh w k q = (i : ℕ) → Stands V sh w k q i → (slot sh w q ≡ slot_word (tag_of sh k) i) × IsBucketOf sh k (q / 4)

-- wherever the key stands, it stands so
abbrev pub IsPlaced : ℕ → Shape → List ℕ → ℕ → Type 0
IsPlaced V sh w k = (q : ℕ) → IsPlacedAt V sh w k q
