-- The word of a slot: its range, and the tag and the item in it.
use Rattle.std.proofs.Common.{ℕ, ◌≡◌, ◌+◌, ◌-◌, ◌*◌, ◌/◌, ◌%◌, ◌^◌, ◌<◌, ◌≤◌, arith}
use Rattle.mc_words.specs.Keys.{slot_word, tag_in, item_in, NamesSome}
use Rattle.mc_words.specs.Shapes.{IsShape}
use Rattle.mc_words.specs.declared.shape.Shape.{Shape}

pub slot_word-fits : (tag i : ℕ) → tag < 256 → i < 2 ^ 32 → slot_word tag i < 2 ^ 64
unfolding slot_word
slot_word-fits tag i a b = omega arith

pub tag_in-word : (tag i : ℕ) → i < 2 ^ 32 → tag_in (slot_word tag i) ≡ tag
unfolding tag_in slot_word
tag_in-word tag i l = omega arith

pub item_in-word : (tag i : ℕ) → i < 2 ^ 32 → item_in (slot_word tag i) ≡ i
unfolding item_in slot_word
item_in-word tag i l = omega arith

-- a word that names an item is not 0, and both are in their ranges
pub parts-named : (sh : Shape) (word : ℕ) → IsShape sh → NamesSome sh word → (1 ≤ word) × ((word - 1) / 2 ^ 32 < 256) × ((word - 1) % 2 ^ 32 < sh.items)
unfolding slot_word
parts-named sh word s n =
    let is : word ≡ n.0 * 2 ^ 32 + n.1 + 1 = n.2.2 in
    let tag = n.2.0 in
    let item = n.2.1 in
    let items = s.items.1 in
    let buckets = s.buckets.1 in
    (omega arith, omega arith, omega arith)
