-- The items of a table: which are free, and which a choice, if there is one, has in use.
use Rattle.std.specs.Prelude.{ℕ, ◌≡◌, ◌<◌, ◌↔◌, List, Option, Some, None}
use Rattle.mc_search.specs.Choices.{IsChoice, IsInUse}
use Rattle.mc_search.specs.Picks.{HasPicked}
use Rattle.mc_search.specs.Sweeps.{Swept}
use Rattle.mc_search.specs.declared.pick.Pick.{Pick}
use Rattle.mc_search.specs.Free.{IsFreeList, IsInList, TakesListed, GivesListed}
use Rattle.mc_search.specs.declared.choice.Choice.{Choice}
use Rattle.mc_search.specs.declared.free.FreeList.{FreeList}
use Rattle.mc_search.specs.declared.items.FreeItems.{FreeItems}
use Rattle.mc_words.specs.declared.policy.Policy.{Policy}
use Rattle.mc_words.specs.declared.policy.Policy.TheVariants.{Clock, ScanResistant}

-- the item is free
abbrev pub IsFreeIn : FreeItems → ℕ → Type 0
IsFreeIn f i = IsInList f.list i

-- the item is no longer free, and each other is as it was
abbrev pub TakesFree : FreeItems → FreeItems → ℕ → Type 0
TakesFree old new i = TakesListed old.list new.list i

-- the item is free, and each other is as it was
abbrev pub GivesBack : FreeItems → FreeItems → ℕ → Type 0
GivesBack old new i = GivesListed old.list new.list i

-- the choice has in use the items that are not free
pub record Follows (f : FreeList) (c : Choice) : Type 0 where
  pub choice : IsChoice c
  pub items : c.items ≡ f.items
  pub used : (j : ℕ) → IsInUse c j ↔ ((j < f.items) × (IsInList f j → ⊥))

-- so does a choice, if there is one
abbrev pub IsTied : FreeList → Option Choice → Type 0
IsTied f None = Unit {0}
IsTied f (Some c) = Follows f c

-- the free items are listed once each, and a choice has the others
pub record IsConsistent (f : FreeItems) : Type 0 where
  pub kept : IsFreeList f.list
  pub tied : IsTied f.list f.choice

-- the policy of the table: if there is a choice, new keys give way before those that were used again
abbrev pub policy_by : Option Choice → Policy
policy_by None = Clock
policy_by (Some c) = ScanResistant

abbrev pub policy_in : FreeItems → Policy
policy_in f = policy_by f.choice

-- the item is in use
abbrev pub IsUsedIn : FreeItems → ℕ → Type 0
IsUsedIn f i = (i < f.list.items) × (IsFreeIn f i → ⊥)

-- there is a choice, and the search has made these readings
abbrev pub IsPicking : FreeItems → Pick → List Swept → Type 0
IsPicking f p rs = (c : Choice) × (f.choice ≡ Some c) × HasPicked c p rs
