-- The parts of a key, and the word of a slot.
use Rattle.std.specs.Prelude.{ℕ, ◌≡◌, ◌≢◌, ◌+◌, ◌-◌, ◌*◌, ◌/◌, ◌%◌, ◌^◌, ◌<◌, ◌⊎◌, Option, Some, None, bit_xor}
use Rattle.mc_words.specs.declared.mix.Mix.{Mix}
use Rattle.mc_words.specs.declared.mix.Mix.TheVariants.{Plain, Fmix}
use Rattle.mc_words.specs.declared.shape.Shape.{Shape}

abbrev pub xor_shift : ℕ → ℕ
xor_shift h = bit_xor h (h / 2 ^ 33)

-- the key as it is, or as the finalizer of MurmurHash3 leaves it
unfoldable pub mixed_key : Mix → ℕ → ℕ
mixed_key Plain k = k
mixed_key Fmix k = xor_shift (xor_shift (xor_shift k * 0xff51afd7ed558ccd % 2 ^ 64) * 0xc4ceb9fe1a85ec53 % 2 ^ 64)

-- one byte of the key, which its slot keeps
unfoldable pub tag_of : Shape → ℕ → ℕ
tag_of sh k = mixed_key sh.mix k / 2 ^ 56

-- the stripe whose version counts the changes of the key
unfoldable pub stripe_of : Shape → ℕ → ℕ
stripe_of sh k = (mixed_key sh.mix k / 2 ^ 32) % sh.stripes

-- the first of the key's two buckets
unfoldable pub first_of : Shape → ℕ → ℕ
first_of sh k = mixed_key sh.mix k % sh.buckets

-- the shard of a key among `shards` shards: cut from the byte below the tag, which no table uses
unfoldable pub shard_of : Mix → ℕ → ℕ → ℕ
shard_of mix shards k = (mixed_key mix k / 2 ^ 48) % shards

-- how far apart two buckets of one tag are
unfoldable pub offset_of : Shape → ℕ → ℕ
offset_of sh tag = ((2 * tag + 1) * 0x5bd1e995) % sh.buckets

-- the other bucket that a key of this tag has
unfoldable pub alternate : Shape → ℕ → ℕ → ℕ
alternate sh b tag = bit_xor b (offset_of sh tag)

abbrev pub second_of : Shape → ℕ → ℕ
second_of sh k = alternate sh (first_of sh k) (tag_of sh k)

abbrev pub IsBucketOf : Shape → ℕ → ℕ → Type 0
IsBucketOf sh k b = (b ≡ first_of sh k) ⊎ (b ≡ second_of sh k)

-- a slot that names an item under a tag; an empty slot is 0
unfoldable pub slot_word : ℕ → ℕ → ℕ
slot_word tag i = tag * 2 ^ 32 + i + 1

-- the word names this item, under some tag
abbrev pub NamesUnder : Shape → ℕ → ℕ → ℕ → Type 0
NamesUnder sh word tag i = (tag < 256) × (i < sh.items) × (word ≡ slot_word tag i)

-- the word names an item
abbrev pub NamesSome : Shape → ℕ → Type 0
NamesSome sh word = (tag : ℕ) × (i : ℕ) × NamesUnder sh word tag i

-- the tag in the word of a slot that is not empty
unfoldable pub tag_in : ℕ → ℕ
tag_in word = (word - 1) / 2 ^ 32

-- the item in it
unfoldable pub item_in : ℕ → ℕ
item_in word = (word - 1) % 2 ^ 32

-- the item that the word names under the tag, or that it names none
abbrev pub MatchesTag : Shape → ℕ → ℕ → Option ℕ → Type 0
MatchesTag sh tag word None = (i : ℕ) → i < sh.items → word ≢ slot_word tag i
MatchesTag sh tag word (Some i) = (i < sh.items) × (word ≡ slot_word tag i)
