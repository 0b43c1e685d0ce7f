-- What a plan is made from, and what it makes of a quiet state.
use Rattle.std.specs.Prelude.{ℕ, ◌≡◌, ◌+◌, ◌<◌, List, [], ◌∷◌, ◌++◌, map, Some}
use Rattle.mc_words.specs.declared.history.Change.{Change}
use Rattle.mc_words.specs.declared.history.Change.TheVariants.{Put, Remove, Evict}
use Rattle.mc_words.specs.declared.place.Place.{Place}
use Rattle.mc_words.specs.declared.shape.Shape.{Shape}
use Rattle.mc_words.specs.Chains.{IsHole}
use Rattle.mc_words.specs.Keys.{tag_of, slot_word, IsBucketOf}
use Rattle.mc_words.specs.Places.{moment, slot_number}
use Rattle.mc_words.specs.Standing.{Stands, IsAbsent, IsFree}
use Rattle.mc_search.specs.Kept.{SetsSlot, KeepsSlots, KeepsItems}
use Rattle.mc_theory.specs.Inner.{StateHolds, StateCounted}
use Rattle.mc_theory.specs.Lists.{Made, AreAllowed, after_all}
use Rattle.mc_theory.specs.Phases.{Quiet}
use Rattle.mc_theory.specs.States.{State}
use Rattle.mc_theory.specs.declared.act.Act.{Act}

-- no deed runs, and the words agree with the history
pub record IsQuiet (V : ℕ) (sh : Shape) (s : State V) : Type 0 where
  pub quiet : s.phase ≡ Quiet
  pub holds : StateHolds sh s
  pub counted : StateCounted sh s

-- acts that read no bit, as they are made
abbrev pub as_made : List Act → List Made
as_made acts = map (λ (a : Act). record { act = a; bit = 0 }) acts

-- the state after the acts
abbrev pub state_after_acts : (V : ℕ) → Shape → State V → List Act → State V
state_after_acts V sh s acts = after_all sh s (as_made acts)

-- each act is allowed after those before it, and they leave a quiet state: its history has these changes more, and `steps` version changes
-- were made
pub record Makes (V : ℕ) (sh : Shape) (s : State V) (acts : List Act) (new : List (Change V)) (steps : ℕ) : Type 0 where
  pub allowed : AreAllowed sh s (as_made acts)
  pub quiet : IsQuiet V sh (state_after_acts V sh s acts)
  pub history : (state_after_acts V sh s acts).history ≡ s.history ++ new
  pub version_steps : (state_after_acts V sh s acts).version_steps ≡ s.version_steps + steps
  pub hand : (state_after_acts V sh s acts).hand ≡ s.hand

-- the key has room: an item that no slot names, and an empty slot in one of its buckets
pub record CanFill (V : ℕ) (sh : Shape) (w : List ℕ) (k i : ℕ) (p : Place) : Type 0 where
  pub absent : IsAbsent V sh w k
  pub in_items : i < sh.items
  pub free : IsFree sh w i
  pub hole : IsHole sh w p
  pub bucket : IsBucketOf sh k p.bucket

-- from each quiet state in which the key has room, and whose next moment is the stamp, the acts put the key there, and the slot names it
abbrev pub ActsFill : ℕ → Shape → ℕ → List ℕ → ℕ → ℕ → Place → List Act → Type 0
ActsFill V sh k v at i p acts =
    (s : State V) → IsQuiet V sh s → CanFill V sh s.words k i p → at ≡ moment s.words + 1 →
    Makes V sh s acts (Put k v ∷ []) 2 ×
    Stands V sh (state_after_acts V sh s acts).words k (slot_number p) i ×
    SetsSlot sh s.words (state_after_acts V sh s acts).words (slot_number p) (slot_word (tag_of sh k) i)

-- from each quiet state in which the key stands at the item, and whose next moment is the stamp, the acts put the new value
abbrev pub ActsRenew : ℕ → Shape → ℕ → List ℕ → ℕ → ℕ → List Act → Type 0
ActsRenew V sh k v at i acts =
    (s : State V) (q : ℕ) → IsQuiet V sh s → Stands V sh s.words k q i → at ≡ moment s.words + 1 →
    Makes V sh s acts (Put k v ∷ []) 2 ×
    Stands V sh (state_after_acts V sh s acts).words k q i ×
    KeepsSlots sh s.words (state_after_acts V sh s acts).words

-- from each quiet state in which the key stands in the slot, the acts take it out: no slot names its item, and all items are as they were
abbrev pub ActsRemove : ℕ → Shape → ℕ → Place → List Act → Type 0
ActsRemove V sh k p acts =
    (s : State V) (i : ℕ) → IsQuiet V sh s → p.slot < 4 → Stands V sh s.words k (slot_number p) i →
    Makes V sh s acts (Remove k ∷ []) 2 ×
    IsFree sh (state_after_acts V sh s acts).words i ×
    SetsSlot sh s.words (state_after_acts V sh s acts).words (slot_number p) 0 ×
    KeepsItems V sh s.words (state_after_acts V sh s acts).words

-- from each quiet state in which the key stands in the slot, at the item whose bit the hand found clear, the acts evict it likewise
abbrev pub ActsEvict : ℕ → Shape → ℕ → Place → List Act → Type 0
ActsEvict V sh k p acts =
    (s : State V) (i : ℕ) → IsQuiet V sh s → p.slot < 4 → Stands V sh s.words k (slot_number p) i → s.cleared ≡ Some i →
    Makes V sh s acts (Evict k ∷ []) 2 ×
    IsFree sh (state_after_acts V sh s acts).words i ×
    SetsSlot sh s.words (state_after_acts V sh s acts).words (slot_number p) 0 ×
    KeepsItems V sh s.words (state_after_acts V sh s acts).words
