-- What a put makes of a quiet state when it first makes room.
use Rattle.std.specs.Prelude.{ℕ, ◌≡◌, ◌≢◌, ◌+◌, ◌*◌, ◌<◌, List, [], ◌∷◌, ◌++◌, length}
use Rattle.mc_words.specs.declared.history.Change.TheVariants.{Put}
use Rattle.mc_words.specs.declared.place.Place.{Place}
use Rattle.mc_words.specs.declared.shape.Shape.{Shape}
use Rattle.mc_words.specs.Chains.{IsChain}
use Rattle.mc_words.specs.History.{IsWord}
use Rattle.mc_words.specs.Places.{moment, slot_number}
use Rattle.mc_words.specs.Shapes.{IsShape}
use Rattle.mc_words.specs.Standing.{NamesItem, Stands, IsAbsent, IsFree}
use Rattle.mc_theory.specs.States.{State}
use Rattle.mc_theory.specs.declared.act.Act.{Act}
use Rattle.mc_plan.specs.Laws.{IsValue}
use Rattle.mc_plan.specs.Making.{IsQuiet, Makes, state_after_acts}
use Rattle.mc_search.specs.Kept.{KeepsNamed}
use Rattle.mc_plan.specs.Moves.{AreKeys}
use Rattle.mc_plan.specs.Plans.{fill_acts, moves_acts}
use Rattle.mc_search.specs.Paths.{first_place}

-- the key has a chain to a hole and a free item, and is not there
pub record CanPut (V : ℕ) (sh : Shape) (w : List ℕ) (k i : ℕ) (places : List Place) (hole : Place) : Type 0 where
  pub absent : IsAbsent V sh w k
  pub in_items : i < sh.items
  pub free : IsFree sh w i
  pub chain : IsChain sh w k places hole
  pub keys : AreKeys V sh w places

-- the item is taken, and each other is free or named as it was
pub record TakesItem (sh : Shape) (w later : List ℕ) (i : ℕ) : Type 0 where
  pub taken : (q : ℕ) × NamesItem sh later q i
  pub free : (j : ℕ) → j ≢ i → IsFree sh w j → IsFree sh later j
  pub named : KeepsNamed sh w later

-- the moves of the chain, and then a fill of its first place
abbrev pub put_acts : ℕ → Shape → List ℕ → ℕ → List ℕ → ℕ → ℕ → List Place → Place → List Act
put_acts V sh w k v at i places hole = moves_acts V sh w places hole ++ fill_acts sh k v at i (first_place places hole)

-- from each quiet state in which the key can be put, and whose next moment is the stamp, they put it: two version changes more than for the moves
abbrev pub PutsMakeRoom : ℕ → Type 0
PutsMakeRoom V =
    (sh : Shape) (s : State V) (k : ℕ) (v : List ℕ) (at i : ℕ) (places : List Place) (hole : Place) →
    IsShape sh → IsWord k → IsValue V v → IsWord at → IsQuiet V sh s → CanPut V sh s.words k i places hole → at ≡ moment s.words + 1 →
    Makes V sh s (put_acts V sh s.words k v at i places hole) (Put k v ∷ []) (2 * length places + 2) ×
    Stands V sh (state_after_acts V sh s (put_acts V sh s.words k v at i places hole)).words k (slot_number (first_place places hole)) i ×
    TakesItem sh s.words (state_after_acts V sh s (put_acts V sh s.words k v at i places hole)).words i
