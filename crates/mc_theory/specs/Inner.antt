-- What holds of the words in the middle of a deed, and the whole invariant.
use Rattle.std.specs.Prelude.{ℕ, ◌+◌, ◌*◌, ◌≡◌, ◌≢◌, ◌^◌, ◌<◌, ◌≤◌, ◌/◌, ◌⊎◌, List, length, Some, None, IsSome}
use Rattle.mc_words.specs.History.{map_value, since_of, IsLegal}
use Rattle.mc_words.specs.Keys.{tag_of, slot_word, IsBucketOf}
use Rattle.mc_words.specs.Places.{payload, version, slot, item}
use Rattle.mc_words.specs.Standing.{Agrees, Stands, OnlyAt, IsAbsent, IsFree, ItemBegins, HasPayload, AgreesAt}
use Rattle.mc_words.specs.declared.history.Change.{Change}
use Rattle.mc_words.specs.declared.shape.Shape.{Shape}
use Rattle.mc_theory.specs.Phases.{Phase, Quiet, Filling, Keyed, Placed, Renewing, Removing, Removed, Moving, Moved, Closing, deed_key, moment_owed, close_owed}
use Rattle.mc_theory.specs.States.{State}

-- the item of a running fill has the key, no slot, and these words after the key
pub record IsFillReady (V : ℕ) (sh : Shape) (w : List ℕ) (k i : ℕ) (xs : List ℕ) : Type 0 where
  pub in_range : k < 2 ^ 64
  pub in_items : i < sh.items
  pub free : IsFree sh w i
  pub key : item V sh w i 0 ≡ k
  pub absent : IsAbsent V sh w k
  pub fits : length xs ≤ payload V
  pub begins : ItemBegins V sh w i xs

-- a moved key stands in two slots, at one item
pub record StandsTwice (V : ℕ) (sh : Shape) (w : List ℕ) (k fresh : ℕ) (v : List ℕ) : Type 0 where
  pub at : ℕ
  pub of : ℕ
  pub apart : at ≢ fresh
  pub there : Stands V sh w k at of
  pub here : Stands V sh w k fresh of
  pub twice : (p g : ℕ) → Stands V sh w k p g → ((p ≡ at) ⊎ (p ≡ fresh)) × (g ≡ of)
  pub tagged : slot sh w fresh ≡ slot_word (tag_of sh k) of
  pub placed : IsBucketOf sh k (fresh / 4)
  pub held : HasPayload V sh w of v

-- all words of an item but its key were written, and the last is the moment of the change that is owed
abbrev pub IsStamped : (V : ℕ) → List (Change V) → List ℕ → Type 0
IsStamped V h xs = length xs ≡ payload V → since_of V xs ≡ length h + 1

-- what holds of the key of the running deed
abbrev pub DeedFacts : (V : ℕ) → Shape → List ℕ → List (Change V) → Phase → Type 0
DeedFacts V sh w h Quiet = Unit {0}
DeedFacts V sh w h (Filling k) = (k < 2 ^ 64) × IsAbsent V sh w k × (map_value h k ≡ None)
DeedFacts V sh w h (Keyed k i xs) = IsFillReady V sh w k i xs × (map_value h k ≡ None) × IsStamped V h xs
DeedFacts V sh w h (Placed k i xs) = ((q : ℕ) × OnlyAt V sh w k q i) × HasPayload V sh w i xs × (map_value h k ≡ None) × IsStamped V h xs
DeedFacts V sh w h (Renewing k xs) = ((q : ℕ) × (i : ℕ) × OnlyAt V sh w k q i × ItemBegins V sh w i xs) × (length xs ≤ payload V) × IsSome (map_value h k) × IsStamped V h xs
DeedFacts V sh w h (Removing k e) = ((q : ℕ) × (i : ℕ) × OnlyAt V sh w k q i) × IsSome (map_value h k)
DeedFacts V sh w h (Removed k e) = IsAbsent V sh w k × IsSome (map_value h k)
DeedFacts V sh w h (Moving k) = (v : List ℕ) × (map_value h k ≡ Some v) × AgreesAt V sh w k (Some v)
DeedFacts V sh w h (Moved k fresh) = (v : List ℕ) × (map_value h k ≡ Some v) × StandsTwice V sh w k fresh v
DeedFacts V sh w h (Closing k) = AgreesAt V sh w k (map_value h k)

-- the words agree with the history, which is legal, and the running deed is as it should be
pub record Holds (V : ℕ) (sh : Shape) (w : List ℕ) (p : Phase) (h : List (Change V)) : Type 0 where
  pub agrees : Agrees V sh w (deed_key p) h
  pub deed : DeedFacts V sh w h p
  pub legal : IsLegal sh.items h

-- the invariant of a state
abbrev pub StateHolds : {V : ℕ} → Shape → State V → Type 0
StateHolds {V} sh s = Holds V sh s.words s.phase s.history

-- no version is more than the version changes so far, and each change took two of them
pub record IsCounted (sh : Shape) (w : List ℕ) (p : Phase) (many changes : ℕ) : Type 0 where
  pub versions : (t : ℕ) → t < sh.stripes → version w t ≤ changes
  pub moments : 2 * (many + moment_owed p) ≤ changes + close_owed p

abbrev pub StateCounted : {V : ℕ} → Shape → State V → Type 0
StateCounted {V} sh s = IsCounted sh s.words s.phase (length s.history) s.version_steps
