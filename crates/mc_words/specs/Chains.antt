-- Chains of displacements: which keys could move on to make room for one more.
use Rattle.std.specs.Prelude.{ℕ, ◌≡◌, ◌≢◌, ◌≤◌, ◌<◌, ◌⊎◌, ◌==◌, List, [], ◌∷◌, length, map}
use Rattle.std.specs.List.{IsDistinct}
use Rattle.mc_words.specs.declared.place.Place.{Place}
use Rattle.mc_words.specs.declared.shape.Shape.{Shape}
use Rattle.mc_words.specs.Keys.{first_of, second_of, alternate, tag_in}
use Rattle.mc_words.specs.Places.{IsPlace, slot_number, slot}

abbrev pub IsHole : Shape → List ℕ → Place → Type 0
IsHole sh w p = IsPlace sh p × (slot sh w (slot_number p) ≡ 0)

abbrev pub IsOccupied : Shape → List ℕ → Place → Type 0
IsOccupied sh w p = IsPlace sh p × (slot sh w (slot_number p) ≢ 0)

-- the bucket to which the item named at the place can move
abbrev pub beyond : Shape → List ℕ → Place → ℕ
beyond sh w p = alternate sh p.bucket (tag_in (slot sh w (slot_number p)))

-- from bucket b over places to a hole: each place is in the bucket at hand, and leads on to its item's other bucket
abbrev pub Leads : Shape → List ℕ → ℕ → List Place → Place → Type 0
Leads sh w b [] hole = IsHole sh w hole × (hole.bucket ≡ b)
Leads sh w b (p ∷ ps) hole = IsOccupied sh w p × (p.bucket ≡ b) × Leads sh w (beyond sh w p) ps hole

-- a chain from the key: it begins in a bucket of the key, and enters no bucket twice
pub record IsChain (sh : Shape) (w : List ℕ) (k : ℕ) (places : List Place) (hole : Place) : Type 0 where
  pub leads : Leads sh w (first_of sh k) places hole ⊎ Leads sh w (second_of sh k) places hole
  pub distinct : IsDistinct (λ a b. a == b) (hole.bucket ∷ map (λ (p : Place). p.bucket) places)

-- some chain from the key has `count` places, and none has fewer
pub record IsLeastLength (sh : Shape) (w : List ℕ) (k count : ℕ) : Type 0 where
  pub places : List Place
  pub hole : Place
  pub chain : IsChain sh w k places hole
  pub many : length places ≡ count
  pub least : (others : List Place) (end : Place) → IsChain sh w k others end → count ≤ length others

-- every chain from the key has more than this many places
abbrev pub NoChain : Shape → List ℕ → ℕ → ℕ → Type 0
NoChain sh w k depth = (places : List Place) (hole : Place) → IsChain sh w k places hole → depth < length places
