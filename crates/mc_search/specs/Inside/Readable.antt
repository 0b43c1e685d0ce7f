-- What only private contracts say beside `Readable`.
use Rattle.std.specs.Prelude.{ℕ, ◌≡◌, ◌≢◌, ◌+◌, ◌*◌, ◌<◌, List}
use Rattle.mc_words.specs.declared.place.Place.{Place}
use Rattle.mc_words.specs.declared.shape.Shape.{Shape}
use Rattle.mc_words.specs.Chains.{IsHole}
use Rattle.mc_words.specs.Keys.{tag_of, slot_word}
use Rattle.mc_words.specs.Places.{IsPlace, slot, slot_number, item}

-- the slot names no item of the key under the key's tag
abbrev pub IsNotAt : ℕ → Shape → List ℕ → ℕ → ℕ → Type 0
IsNotAt V sh w k q = (i : ℕ) → i < sh.items → slot sh w q ≡ slot_word (tag_of sh k) i → item V sh w i 0 ≢ k

-- none of the bucket's first n slots does
abbrev pub IsNotAmong : ℕ → Shape → List ℕ → ℕ → ℕ → ℕ → Type 0
IsNotAmong V sh w k b n = (j : ℕ) → j < n → IsNotAt V sh w k (4 * b + j)

-- none of the bucket's first n slots has this word
abbrev pub HasNot : Shape → List ℕ → ℕ → ℕ → ℕ → Type 0
HasNot sh w b word n = (j : ℕ) → j < n → slot sh w (4 * b + j) ≢ word

-- a slot of the bucket has this word
abbrev pub IsSlotWith : Shape → List ℕ → ℕ → ℕ → Place → Type 0
IsSlotWith sh w b word p = IsPlace sh p × (p.bucket ≡ b) × (slot sh w (slot_number p) ≡ word)

-- no slot of the bucket is empty
abbrev pub IsFull : Shape → List ℕ → ℕ → Type 0
IsFull sh w b = HasNot sh w b 0 4

-- an empty slot of the bucket
abbrev pub IsHoleIn : Shape → List ℕ → ℕ → Place → Type 0
IsHoleIn sh w b h = IsHole sh w h × (h.bucket ≡ b)
