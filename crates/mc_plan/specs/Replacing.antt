-- What a put makes of a quiet state when it first takes out another key.
use Rattle.std.specs.Prelude.{ℕ, ◌≡◌, ◌+◌, ◌*◌, List, [], ◌∷◌, ◌++◌, Some, length}
use Rattle.mc_words.specs.declared.history.Change.TheVariants.{Put, Evict}
use Rattle.mc_words.specs.declared.place.Place.{Place}
use Rattle.mc_words.specs.declared.shape.Shape.{Shape}
use Rattle.mc_words.specs.Chains.{IsChain}
use Rattle.mc_words.specs.History.{IsWord}
use Rattle.mc_words.specs.Places.{IsPlace, moment, slot_number}
use Rattle.mc_words.specs.Shapes.{IsShape}
use Rattle.mc_words.specs.Standing.{Stands, IsAbsent}
use Rattle.mc_theory.specs.States.{State}
use Rattle.mc_theory.specs.declared.act.Act.{Act}
use Rattle.mc_plan.specs.Laws.{IsValue}
use Rattle.mc_plan.specs.Making.{IsQuiet, Makes, state_after_acts}
use Rattle.mc_search.specs.Kept.{KeepsNamed}
use Rattle.mc_plan.specs.Moves.{AreKeys}
use Rattle.mc_search.specs.Paths.{IsCut, first_place}
use Rattle.mc_plan.specs.Plans.{evict_acts}
use Rattle.mc_plan.specs.Puts.{put_acts}

-- the key is not there and has a chain to a hole, and the other key stands in the victim's slot, at which the chain is cut
pub record CanReplace (V : ℕ) (sh : Shape) (w : List ℕ) (k i e : ℕ) (p : Place) (places : List Place) (hole : Place) (kept : List Place) (end : Place) : Type 0 where
  pub absent : IsAbsent V sh w k
  pub victim : IsPlace sh p
  pub stands : Stands V sh w e (slot_number p) i
  pub chain : IsChain sh w k places hole
  pub cut : IsCut p places hole kept end
  pub keys : AreKeys V sh w kept

-- the eviction of the other key, and then the put, whose fill takes the other key's item
abbrev pub replace_acts : ℕ → Shape → List ℕ → ℕ → List ℕ → ℕ → ℕ → ℕ → Place → List Place → Place → List Act
replace_acts V sh w k v at i e p kept end = evict_acts e p ++ put_acts V sh w k v at i kept end

-- take any quiet state in which the key can replace the other, at the item whose bit the hand found clear. From there they take the other
-- out and put the key, whose stamp is the moment after the eviction's: four version changes more than for the moves
abbrev pub EvictionsMakeRoom : ℕ → Type 0
EvictionsMakeRoom V =
    (sh : Shape) (s : State V) (k : ℕ) (v : List ℕ) (at i e : ℕ) (p : Place) (places : List Place) (hole : Place) (kept : List Place) (end : Place) →
    IsShape sh → IsWord k → IsWord e → IsValue V v → IsWord at → IsQuiet V sh s → s.cleared ≡ Some i → CanReplace V sh s.words k i e p places hole kept end → at ≡ moment s.words + 2 →
    Makes V sh s (replace_acts V sh s.words k v at i e p kept end) (Evict e ∷ Put k v ∷ []) (2 * length kept + 4) ×
    Stands V sh (state_after_acts V sh s (replace_acts V sh s.words k v at i e p kept end)).words k (slot_number (first_place kept end)) i ×
    KeepsNamed sh s.words (state_after_acts V sh s (replace_acts V sh s.words k v at i e p kept end)).words
