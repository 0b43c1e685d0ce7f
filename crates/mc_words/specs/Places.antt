-- The places of the words, what they hold, and what a write of one leaves unchanged.
use Rattle.std.specs.Prelude.{ℕ, ◌≡◌, ◌+◌, ◌*◌, ◌<◌, ◌≤◌, List, slice_index, slice_set}
use Rattle.mc_words.specs.declared.place.Place.{Place}
use Rattle.mc_words.specs.declared.shape.Shape.{Shape}
use Rattle.mc_words.specs.Recency.{recency_word, recency_words}

-- how many words of an item follow its key, if a value has V words: the value, and after it the stamp, the moment of the last put
unfoldable pub payload : ℕ → ℕ
payload V = V + 1

-- no item has more of them
abbrev pub most_payload : ℕ
most_payload = 9

-- a value has from 1 to 8 words
pub record IsWidth (V : ℕ) : Type 0 where
  pub some : 1 ≤ V
  pub most : V ≤ 8

-- the number of a slot: slot j of bucket b is 4b + j
abbrev pub slot_number : Place → ℕ
slot_number p = 4 * p.bucket + p.slot

pub record IsPlace (sh : Shape) (p : Place) : Type 0 where
  pub in_table : p.bucket < sh.buckets
  pub in_bucket : p.slot < 4

-- the moment, the versions, the slots, the items, the recency words, in this order
abbrev pub version_place : ℕ → ℕ
version_place t = 1 + t

abbrev pub slot_place : Shape → ℕ → ℕ
slot_place sh q = 1 + sh.stripes + q

-- word 0 of an item is its key
abbrev pub item_place : ℕ → Shape → ℕ → ℕ → ℕ
item_place V sh i j = 1 + sh.stripes + 4 * sh.buckets + i * (1 + payload V) + j

-- how many words there are before the recency words
abbrev pub word_count : ℕ → Shape → ℕ
word_count V sh = 1 + sh.stripes + 4 * sh.buckets + sh.items * (1 + payload V)

abbrev pub recency_place : ℕ → Shape → ℕ → ℕ
recency_place V sh i = word_count V sh + recency_word i

abbrev pub all_words : ℕ → Shape → ℕ
all_words V sh = word_count V sh + recency_words sh

-- what the words hold
unfoldable pub moment : List ℕ → ℕ
moment w = slice_index w 0

unfoldable pub version : List ℕ → ℕ → ℕ
version w t = slice_index w (version_place t)

unfoldable pub slot : Shape → List ℕ → ℕ → ℕ
slot sh w q = slice_index w (slot_place sh q)

unfoldable pub item : ℕ → Shape → List ℕ → ℕ → ℕ → ℕ
item V sh w i j = slice_index w (item_place V sh i j)

-- what a write of one of them leaves unchanged
unfoldable pub with_moment : List ℕ → ℕ → List ℕ
with_moment w x = slice_set w 0 x

unfoldable pub with_version : List ℕ → ℕ → ℕ → List ℕ
with_version w t x = slice_set w (version_place t) x

unfoldable pub with_slot : Shape → List ℕ → ℕ → ℕ → List ℕ
with_slot sh w q x = slice_set w (slot_place sh q) x

unfoldable pub with_item : ℕ → Shape → List ℕ → ℕ → ℕ → ℕ → List ℕ
with_item V sh w i j x = slice_set w (item_place V sh i j) x

-- what a word is for
pub data Use : Type 0 where
  TheMoment : Use
  AVersion : (stripe : ℕ) → Use
  ASlot : (number : ℕ) → Use
  AnItem : (item word : ℕ) → Use
  ARecency : (word : ℕ) → Use

-- the uses that a table of this shape has
abbrev pub IsUse : ℕ → Shape → Use → Type 0
IsUse V sh TheMoment = Unit {0}
IsUse V sh (AVersion t) = t < sh.stripes
IsUse V sh (ASlot q) = q < 4 * sh.buckets
IsUse V sh (AnItem i j) = (i < sh.items) × (j ≤ payload V)
IsUse V sh (ARecency m) = m < recency_words sh

abbrev pub place_of : ℕ → Shape → Use → ℕ
place_of V sh TheMoment = 0
place_of V sh (AVersion t) = version_place t
place_of V sh (ASlot q) = slot_place sh q
place_of V sh (AnItem i j) = item_place V sh i j
place_of V sh (ARecency m) = word_count V sh + m

-- words of different uses are at different places, below the number of words
pub record PlacesApart (V : ℕ) : Type 0 where
  pub apart : (sh : Shape) (a b : Use) → IsUse V sh a → IsUse V sh b → place_of V sh a ≡ place_of V sh b → a ≡ b
  pub below : (sh : Shape) (a : Use) → IsUse V sh a → place_of V sh a < all_words V sh
