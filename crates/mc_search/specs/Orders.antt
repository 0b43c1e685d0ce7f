-- Which of several holes, and of several single moves, is the first.
use Rattle.std.specs.Prelude.{ℕ, ◌≡◌, ◌≢◌, ◌+◌, ◌*◌, ◌<◌, ◌⊎◌, [], ◌∷◌, List}
use Rattle.mc_words.specs.declared.place.Place.{Place}
use Rattle.mc_words.specs.declared.shape.Shape.{Shape}
use Rattle.mc_words.specs.Chains.{IsHole, Leads}
use Rattle.mc_words.specs.Places.{slot}
use Rattle.mc_search.specs.declared.room.OneMove.{OneMove}

-- the first empty slot of a bucket
pub record IsFirstHole (sh : Shape) (w : List ℕ) (b : ℕ) (h : Place) : Type 0 where
  pub hole : IsHole sh w h
  pub within : h.bucket ≡ b
  pub before : (j : ℕ) → j < h.slot → slot sh w (4 * b + j) ≢ 0

-- of two buckets, the first empty slot of the first one that has any
abbrev pub IsFirstHoleOf : Shape → List ℕ → ℕ → ℕ → Place → Type 0
IsFirstHoleOf sh w first second h =
    IsFirstHole sh w first h ⊎ (((other : Place) → IsHole sh w other → other.bucket ≡ first → ⊥) × IsFirstHole sh w second h)

-- the first slot of a bucket whose key has a hole in its other bucket, and the first hole there
pub record IsFirstMove (sh : Shape) (w : List ℕ) (b : ℕ) (m : OneMove) : Type 0 where
  pub leads : Leads sh w b (m.from ∷ []) m.hole
  pub before : (from hole : Place) → from.slot < m.from.slot → Leads sh w b (from ∷ []) hole → ⊥
  pub first : (j : ℕ) → j < m.hole.slot → slot sh w (4 * m.hole.bucket + j) ≢ 0

-- of two buckets, the first move of the first one that has any
abbrev pub IsFirstMoveOf : Shape → List ℕ → ℕ → ℕ → OneMove → Type 0
IsFirstMoveOf sh w first second m =
    IsFirstMove sh w first m ⊎ (((from hole : Place) → Leads sh w first (from ∷ []) hole → ⊥) × IsFirstMove sh w second m)
