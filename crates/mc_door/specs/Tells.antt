-- What a call by a side returns.
use Rattle.std.specs.Prelude.{ℕ, ◌≡◌, ◌≢◌, ◌⊎◌}
use Rattle.mc_door.specs.Tellings.{plain}
use Rattle.mc_door.specs.declared.status.TheConstants.{WIDTH}
use Rattle.mc_door.specs.declared.outcome.Outcome.{Outcome}

-- the call was made, and this was returned for its answer
pub record HasTold {Answer : Type 0} (tells : Answer → Outcome) (Means : Answer → Type 0) (told : Outcome) : Type 0 where
  pub made : Answer
  pub is : told ≡ tells made
  pub means : Means made

-- the call was made; or the value has another width, and nothing has changed
abbrev pub Tells : ℕ → ℕ → Type 0 → Type 0 → Outcome → Type 0
Tells V words Same Made told = Made ⊎ ((told ≡ plain WIDTH) × (words ≢ V) × Same)
