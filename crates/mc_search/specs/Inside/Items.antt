-- What a choice learns of an item that a key takes or leaves.
use Rattle.std.specs.Prelude.{ℕ, ◌≡◌, ◌≢◌, ◌⊎◌, ◌↔◌, Option, Some, None}
use Rattle.mc_search.specs.Choices.{IsChoice, IsInUse}
use Rattle.mc_search.specs.declared.choice.Choice.{Choice}

-- the item was taken into the choice, if there is one
abbrev pub IsTakenIn : Option Choice → Option Choice → ℕ → Type 0
IsTakenIn None None i = Unit {0}
IsTakenIn (Some c) (Some d) i = IsChoice d × (d.items ≡ c.items) × ((j : ℕ) → IsInUse d j ↔ (IsInUse c j ⊎ (j ≡ i)))
IsTakenIn _ _ i = ⊥

-- or out of it
abbrev pub IsTakenOut : Option Choice → Option Choice → ℕ → Type 0
IsTakenOut None None i = Unit {0}
IsTakenOut (Some c) (Some d) i = IsChoice d × (d.items ≡ c.items) × ((j : ℕ) → IsInUse d j ↔ (IsInUse c j × (j ≢ i)))
IsTakenOut _ _ i = ⊥
