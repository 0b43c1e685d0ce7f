-- Which act of the writer is allowed.
use Rattle.std.specs.Prelude.{ℕ, ◌≡◌, ◌≢◌, ◌+◌, ◌/◌, ◌^◌, ◌<◌, ◌≤◌, List, length, Option, Some}
use Rattle.mc_words.specs.Keys.{tag_of, alternate, slot_word, IsBucketOf}
use Rattle.mc_words.specs.Places.{payload, slot_number, moment, slot}
use Rattle.mc_words.specs.Standing.{Stands, IsAbsent, IsPresent, IsFree, HasFree, IsEmpty}
use Rattle.mc_words.specs.declared.shape.Shape.{Shape}
use Rattle.mc_theory.specs.Phases.{Phase, Quiet, Filling, Keyed, Placed, Renewing, Removing, Removed, Moving, Moved, Closing}
use Rattle.mc_theory.specs.States.{State}
use Rattle.mc_theory.specs.declared.act.Act.{Act}
use Rattle.mc_theory.specs.declared.act.Act.TheVariants.{Open, Slot, Item, Moment, Close, Hand, Mark}
use Rattle.mc_theory.specs.declared.act.Deed.{Deed}
use Rattle.mc_theory.specs.declared.act.Deed.TheVariants as deed

-- which deed may be opened: an eviction only of the key at the item whose bit the hand found clear
abbrev pub MayOpen : ℕ → Shape → List ℕ → Option ℕ → ℕ → Deed → Type 0
MayOpen V sh w cleared k deed.Fill = IsAbsent V sh w k × HasFree sh w
MayOpen V sh w cleared k deed.Renew = IsPresent V sh w k
MayOpen V sh w cleared k deed.Remove = IsPresent V sh w k
MayOpen V sh w cleared k deed.Evict = (q : ℕ) × (i : ℕ) × Stands V sh w k q i × (cleared ≡ Some i)
MayOpen V sh w cleared k deed.Move = IsPresent V sh w k

-- a word after the value is the item's stamp: the moment of the put that is under way
abbrev pub IsStampAt : ℕ → List ℕ → ℕ → ℕ → Type 0
IsStampAt V w j x = j ≡ payload V → x ≡ moment w + 1

-- which act may come next in each phase
abbrev pub MayFrom : ℕ → Shape → List ℕ → ℕ → Option ℕ → Phase → Act → Type 0
MayFrom V sh w hand cleared Quiet (Open k d) = (k < 2 ^ 64) × MayOpen V sh w cleared k d
MayFrom V sh w hand cleared Quiet (Hand i) = i < sh.items
MayFrom V sh w hand cleared Quiet (Mark i) = i < sh.items
MayFrom V sh w hand cleared (Filling k) (Item i j x) = (i < sh.items) × IsFree sh w i × (j ≡ 0) × (x ≡ k)
MayFrom V sh w hand cleared (Keyed k i xs) (Item g j x) = (g ≡ i) × (j ≡ length xs + 1) × (j ≤ payload V) × (x < 2 ^ 64) × IsStampAt V w j x
MayFrom V sh w hand cleared (Keyed k i xs) (Slot p x) = (length xs ≡ payload V) × IsEmpty sh w (slot_number p) × IsBucketOf sh k p.bucket × (p.slot < 4) × (x ≡ slot_word (tag_of sh k) i)
MayFrom V sh w hand cleared (Placed k i xs) Moment = Unit {0}
MayFrom V sh w hand cleared (Renewing k xs) (Item i j x) = (j ≡ length xs + 1) × (j ≤ payload V) × (x < 2 ^ 64) × ((q : ℕ) × Stands V sh w k q i) × IsStampAt V w j x
MayFrom V sh w hand cleared (Renewing k xs) Moment = length xs ≡ payload V
MayFrom V sh w hand cleared (Removing k e) (Slot p x) = (p.slot < 4) × (x ≡ 0) × ((i : ℕ) × Stands V sh w k (slot_number p) i)
MayFrom V sh w hand cleared (Removed k e) Moment = Unit {0}
MayFrom V sh w hand cleared (Moving k) (Slot p x) = (p.slot < 4) × IsEmpty sh w (slot_number p) × ((q : ℕ) × (i : ℕ) × Stands V sh w k q i × (p.bucket ≡ alternate sh (q / 4) (tag_of sh k)) × (x ≡ slot sh w q))
MayFrom V sh w hand cleared (Moved k fresh) (Slot p x) = (p.slot < 4) × (x ≡ 0) × (slot_number p ≢ fresh) × ((i : ℕ) × Stands V sh w k (slot_number p) i)
MayFrom V sh w hand cleared (Closing k) Close = Unit {0}
MayFrom V sh w hand cleared _ _ = ⊥

-- the act is allowed in the state
abbrev pub IsAllowed : {V : ℕ} → Shape → State V → Act → Type 0
IsAllowed {V} sh s a = MayFrom V sh s.words s.hand s.cleared s.phase a

-- CLOCK's order: the hand turns only while no item is free, and goes round the items one after the other
abbrev pub KeepsClock : {V : ℕ} → Shape → State V → Act → Type 0
KeepsClock sh s (Hand i) = (HasFree sh s.words → ⊥) × (i ≡ s.hand)
KeepsClock sh s _ = Unit {0}

-- the act is allowed in the state, and keeps CLOCK's order
abbrev pub IsAllowedByClock : {V : ℕ} → Shape → State V → Act → Type 0
IsAllowedByClock sh s a = IsAllowed sh s a × KeepsClock sh s a
