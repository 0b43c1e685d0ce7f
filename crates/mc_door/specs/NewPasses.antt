-- Passes that no handle keeps yet.
use Rattle.std.specs.Prelude.{ℕ, ◌≡◌, ◌++◌, All, List, [], ◌∷◌, Some, length, slice_get}
use Rattle.mc_shared.specs.Records.{ReaderRecord}
use Rattle.mc_shards.specs.Openings.{HasSeenNothing}
use Rattle.mc_shards.specs.Sharded.{ArePassOf, Sharded}
use Rattle.mc_door.specs.Roles.{Role, Tries, Holds, Idle}
use Rattle.mc_door.specs.declared.rest.Rest.{Rest}
use Rattle.mc_door.specs.declared.rest.Rest.TheVariants.{One, Two, Three, Four, Five, Six, Seven, Eight}

-- a pass of these shards that has seen nothing of them
abbrev pub IsNewPass : ℕ → Sharded → Role → Type 0
IsNewPass V s (Tries s' rs) = (s' ≡ s) × ArePassOf s rs × HasSeenNothing V rs
IsNewPass V s role = ⊥

-- these passes of new shards have seen no change of any shard
pub record HaveSeenNothing (V : ℕ) (passes : List (List ReaderRecord)) : Type 0 where
  pub each : All (HasSeenNothing V) passes

-- one of these passes of the shards
abbrev pub IsPassOf : Sharded → List (List ReaderRecord) → Role → Type 0
IsPassOf s passes (Tries s' rs) = (s' ≡ s) × ArePassOf s rs × ((n : ℕ) × (slice_get passes n ≡ Some rs))
IsPassOf s passes role = ⊥

-- the last of these passes of the shards, given out: the others are left
abbrev pub IsLastPass : Sharded → List (List ReaderRecord) → List (List ReaderRecord) → Role → Type 0
IsLastPass s passes others (Tries s' rs) = (s' ≡ s) × ArePassOf s rs × (passes ≡ others ++ rs ∷ [])
IsLastPass s passes others role = ⊥

-- of the passes that are left: the width of values, their shards, and what each of them has of the shards
abbrev pub width_on : Rest → ℕ
width_on (One s) = 1
width_on (Two s) = 2
width_on (Three s) = 3
width_on (Four s) = 4
width_on (Five s) = 5
width_on (Six s) = 6
width_on (Seven s) = 7
width_on (Eight s) = 8

abbrev pub shards_on : Rest → Sharded
shards_on (One s) = s.shared.value.shards
shards_on (Two s) = s.shared.value.shards
shards_on (Three s) = s.shared.value.shards
shards_on (Four s) = s.shared.value.shards
shards_on (Five s) = s.shared.value.shards
shards_on (Six s) = s.shared.value.shards
shards_on (Seven s) = s.shared.value.shards
shards_on (Eight s) = s.shared.value.shards

abbrev pub passes_on : Rest → List (List ReaderRecord)
passes_on (One s) = s.passes.items
passes_on (Two s) = s.passes.items
passes_on (Three s) = s.passes.items
passes_on (Four s) = s.passes.items
passes_on (Five s) = s.passes.items
passes_on (Six s) = s.passes.items
passes_on (Seven s) = s.passes.items
passes_on (Eight s) = s.passes.items

-- how many they are
abbrev pub count_on : Rest → ℕ
count_on rest = length (passes_on rest)

-- these are the side's shards
abbrev pub AreOfSide : Role → Sharded → Type 0
AreOfSide (Tries s rs) s' = s' ≡ s
AreOfSide (Holds s h) s' = s' ≡ s
AreOfSide Idle s' = ⊥

-- this many passes of the side's shards
abbrev pub AreMore : Role → ℕ → Rest → Type 0
AreMore role many rest = AreOfSide role (shards_on rest) × (count_on rest ≡ many)
