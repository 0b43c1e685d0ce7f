-- What moves make of a quiet state.
use Rattle.std.specs.Prelude.{ℕ, ◌≡◌, ◌≢◌, ◌*◌, ◌<◌, List, [], ◌∷◌, length}
use Rattle.mc_words.specs.declared.place.Place.{Place}
use Rattle.mc_words.specs.declared.shape.Shape.{Shape}
use Rattle.mc_words.specs.Chains.{IsHole, IsOccupied, IsChain}
use Rattle.mc_words.specs.History.{IsWord}
use Rattle.mc_words.specs.Keys.{tag_of, alternate, IsBucketOf}
use Rattle.mc_words.specs.Places.{slot_number, slot}
use Rattle.mc_words.specs.Shapes.{IsShape}
use Rattle.mc_words.specs.Standing.{Stands, IsAbsent, IsFree}
use Rattle.mc_theory.specs.States.{State}
use Rattle.mc_theory.specs.declared.act.Act.{Act}
use Rattle.mc_plan.specs.Making.{IsQuiet, Makes, state_after_acts}
use Rattle.mc_search.specs.Kept.{KeepsItems, KeepsNamed}
use Rattle.mc_plan.specs.Plans.{key_named, moves_acts}
use Rattle.mc_search.specs.Paths.{first_place}

-- the key stands in the slot, and the other slot is an empty one of the key's other bucket
pub record CanMove (V : ℕ) (sh : Shape) (w : List ℕ) (k i : ℕ) (from to : Place) : Type 0 where
  pub in_bucket : from.slot < 4
  pub stands : Stands V sh w k (slot_number from) i
  pub hole : IsHole sh w to
  pub other : to.bucket ≡ alternate sh from.bucket (tag_of sh k)

-- the later words hold in one slot what the other held, and the other is empty; the other slots and all items are as they were
pub record MovesSlot (V : ℕ) (sh : Shape) (w later : List ℕ) (from to : ℕ) : Type 0 where
  pub there : slot sh later to ≡ slot sh w from
  pub here : slot sh later from ≡ 0
  pub others : (o : ℕ) → o < 4 * sh.buckets → o ≢ from → o ≢ to → slot sh later o ≡ slot sh w o
  pub items : KeepsItems V sh w later

-- from each quiet state in which the key can move, the acts move it, and no change enters the history
abbrev pub ActsMove : ℕ → Shape → ℕ → ℕ → Place → Place → List Act → Type 0
ActsMove V sh k word from to acts =
    (s : State V) (i : ℕ) → IsQuiet V sh s → CanMove V sh s.words k i from to → word ≡ slot sh s.words (slot_number from) →
    Makes V sh s acts [] 2 ×
    Stands V sh (state_after_acts V sh s acts).words k (slot_number to) i ×
    MovesSlot V sh s.words (state_after_acts V sh s acts).words (slot_number from) (slot_number to)

-- each of the places is in the table and occupied
abbrev pub AreTaken : Shape → List ℕ → List Place → Type 0
AreTaken sh w [] = Unit {0}
AreTaken sh w (p ∷ ps) = IsOccupied sh w p × AreTaken sh w ps

-- the keys at the places are numbers of 64 bits
abbrev pub AreKeys : ℕ → Shape → List ℕ → List Place → Type 0
AreKeys V sh w [] = Unit {0}
AreKeys V sh w (p ∷ ps) = IsWord (key_named V sh w p) × AreKeys V sh w ps

-- the key has room where the path begins; if it was absent it still is, and the same items are free
pub record HasRoomFor (V : ℕ) (sh : Shape) (w later : List ℕ) (k : ℕ) (first : Place) : Type 0 where
  pub hole : IsHole sh later first
  pub bucket : IsBucketOf sh k first.bucket
  pub absent : IsAbsent V sh w k → IsAbsent V sh later k
  pub free : (i : ℕ) → IsFree sh w i → IsFree sh later i
  pub named : KeepsNamed sh w later

-- from each quiet state with these words, the acts are allowed one after the other, change no history, and make room for the key in the first place
abbrev pub MakesRoomFor : ℕ → Shape → List ℕ → ℕ → List Place → Place → List Act → Type 0
MakesRoomFor V sh w k places hole acts =
    (s : State V) → IsQuiet V sh s → s.words ≡ w →
    Makes V sh s acts [] (2 * length places) ×
    HasRoomFor V sh w (state_after_acts V sh s acts).words k (first_place places hole)

-- they do so for each key from which the places are a chain to the hole
abbrev pub MakesRoom : ℕ → Shape → List ℕ → List Place → Place → List Act → Type 0
MakesRoom V sh w places hole acts = (k : ℕ) → IsChain sh w k places hole → MakesRoomFor V sh w k places hole acts

-- the moves of a chain, from its end backwards, make room where it begins
abbrev pub MovesMakeRoom : ℕ → Type 0
MovesMakeRoom V =
    (sh : Shape) (w : List ℕ) (places : List Place) (hole : Place) → IsShape sh → AreKeys V sh w places →
    MakesRoom V sh w places hole (moves_acts V sh w places hole)
