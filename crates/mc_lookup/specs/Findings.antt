-- What a try has read, and what is still so of it at a later front.
use Rattle.std.specs.Prelude.{ℕ, ◌≡◌, ◌%◌, ◌*◌, ◌^◌, ◌<◌, ◌≤◌, ◌↔◌, All, List, [], ◌∷◌, take}
use Rattle.mc_theory.specs.Lists.{IsLawful, Made, front}
use Rattle.mc_theory.specs.Lookups.{TagMatches}
use Rattle.mc_theory.specs.Readings.{AreRead, Reading, RiseTo}
use Rattle.mc_theory.specs.States.{State}
use Rattle.mc_theory.specs.declared.access.Access.{Access}
use Rattle.mc_theory.specs.declared.access.Access.TheVariants.{Version, Slot, Key, Value, Stamp, Moment, Mark}
use Rattle.mc_words.specs.History.{map_value}
use Rattle.mc_words.specs.Keys.{stripe_of}
use Rattle.mc_words.specs.Places.{item, payload, slot, slot_number, version}
use Rattle.mc_words.specs.Shapes.{IsShape}
use Rattle.mc_words.specs.Standing.{Stands}
use Rattle.mc_words.specs.declared.place.Place.{Place}
use Rattle.mc_words.specs.declared.shape.Shape.{Shape}

-- the word is still that of its place, if that is the version, the slot or a word of the item of the key; and the map after x changes still
-- holds of the key what the map holds
abbrev pub IsStillSo : {V : ℕ} → Shape → State V → ℕ → Access → ℕ → Type 0
IsStillSo {V} sh s k (Version t) x = t ≡ stripe_of sh k → version s.words t ≡ x
IsStillSo {V} sh s k (Slot p) x = (i : ℕ) → Stands V sh s.words k (slot_number p) i → slot sh s.words (slot_number p) ≡ x
IsStillSo {V} sh s k (Key i) x = (q : ℕ) → Stands V sh s.words k q i → item V sh s.words i 0 ≡ x
IsStillSo {V} sh s k (Value i j) x = (q : ℕ) → Stands V sh s.words k q i → j ≤ payload V → item V sh s.words i j ≡ x
IsStillSo {V} sh s k (Stamp i) x = (q : ℕ) → Stands V sh s.words k q i → item V sh s.words i (payload V) ≡ x
IsStillSo {V} sh s k Moment x = map_value (take x s.history) k ≡ map_value s.history k
IsStillSo {V} sh s k (Mark i) x = Unit {0}

-- from front f to front g, the version of the key's stripe is one even number
pub record StaysEven (V : ℕ) (sh : Shape) (acts : List Made) (k f g : ℕ) : Type 0 where
  pub shape : IsShape sh
  pub key : k < 2 ^ 64
  pub lawful : IsLawful V sh acts
  pub even : version (front V sh acts f).words (stripe_of sh k) % 2 ≡ 0
  pub same : version (front V sh acts g).words (stripe_of sh k) ≡ version (front V sh acts f).words (stripe_of sh k)

-- two readings one after the other: of a slot that names an item under the key's tag, and of that item's key word
pub record TakesItem (sh : Shape) (k : ℕ) (p : Place) (i : ℕ) (r s : Reading) : Type 0 where
  pub in_table : slot_number p < 4 * sh.buckets
  pub reads_slot : r.access ≡ Slot p
  pub names : TagMatches sh k r.word i
  pub reads_key : s.access ≡ Key i

-- while the version is the even number that a try read first, all that the try has read is still so; a slot that named no item under the key's tag is none in which the key is;
-- and an item that a slot named had the key for its key word exactly if the key is in that slot, at that item
pub record FindingsStay (V : ℕ) : Type 0 where
  pub all : (sh : Shape) (acts : List Made) (k f g : ℕ) (rs : List Reading) → StaysEven V sh acts k f g → AreRead V sh acts rs → RiseTo f rs g →
      All (λ r. IsStillSo sh (front V sh acts g) k r.access r.word) rs
  pub passed : (sh : Shape) (acts : List Made) (k f g : ℕ) (p : Place) (r : Reading) → StaysEven V sh acts k f g → AreRead V sh acts (r ∷ []) → RiseTo f (r ∷ []) g →
      r.access ≡ Slot p → ((i : ℕ) → TagMatches sh k r.word i → ⊥) → (i : ℕ) → Stands V sh (front V sh acts g).words k (slot_number p) i → ⊥
  pub taken : (sh : Shape) (acts : List Made) (k f g i : ℕ) (p : Place) (r s : Reading) → StaysEven V sh acts k f g → AreRead V sh acts (r ∷ s ∷ []) → RiseTo f (r ∷ s ∷ []) g →
      TakesItem sh k p i r s → (s.word ≡ k) ↔ Stands V sh (front V sh acts g).words k (slot_number p) i
