-- Which items a set of items has.
use Rattle.std.specs.Prelude.{ℕ, zero, suc, ◌≡◌, ◌+◌, ◌/◌, ◌%◌, ◌^◌, ◌<◌, List, length, slice_index}
use Rattle.std.specs.Int.{bit_at}
use Rattle.mc_search.specs.declared.item_set.ItemSet.{ItemSet}

-- the bit of an item among words of 64
unfoldable pub bit_among : List ℕ → ℕ → ℕ
bit_among words i = bit_at (slice_index words (i / 64)) (i % 64)

-- how many of the first n items have their bit set
unfoldable pub counted : List ℕ → ℕ → ℕ
counted words zero = 0
counted words (suc n) = bit_among words n + counted words n

-- the item's bit: 1 if it is in the set
abbrev pub bit_in : ItemSet → ℕ → ℕ
bit_in s i = bit_among s.words.items i

-- there is a bit for each item, no other bit is set, and the bits that are set were counted
pub record IsItemSet (s : ItemSet) : Type 0 where
  pub size : length s.words.items ≡ s.items / 64 + 1
  pub few : s.items < 2 ^ 31
  pub within : (i : ℕ) → bit_in s i ≡ 1 → i < s.items
  pub count : s.len ≡ counted s.words.items s.items
