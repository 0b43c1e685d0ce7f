-- Handles that were opened just now.
use Rattle.std.specs.Prelude.{ℕ, ◌≡◌, ◌⊎◌, All, List, length, false}
use mathlib.Core.Option.{Option, none, some}
use Rattle.mc_cache.specs.declared.opening.OpenError.{OpenError}
use Rattle.mc_cache.specs.declared.opening.OpenError.TheVariants as error
use Rattle.mc_words.specs.Places.{IsWidth}
use Rattle.mc_words.specs.declared.shape.Shape.{Shape}
use Rattle.mc_words.specs.declared.shape.ShapeError.TheVariants as fault
use Rattle.mc_shared.specs.Records.{ReaderRecord}
use Rattle.mc_shards.specs.Openings.{RefusesShards}
use Rattle.mc_shards.specs.Sharded.{Sharded}
use Rattle.mc_shards.specs.declared.opening.OpenShardsError.{OpenShardsError}
use Rattle.mc_shards.specs.declared.opening.OpenShardsError.TheVariants as shards
use Rattle.mc_door.specs.AnySides.{role_in, width_of}
use Rattle.mc_door.specs.NewPasses.{IsNewPass, IsPassOf}
use Rattle.mc_door.specs.declared.any_side.AnySide.{AnySide}
use Rattle.cefrodil.specs.Open.{kept}
use Rattle.cefrodil.specs.RawShapes.{GoAsAsked, HasMix, HasPolicy, IsShapeOf}
use Rattle.cefrodil.specs.declared.shape.RawShape.{RawShape}
use Rattle.cefrodil.specs.declared.raw_handle.RawHandle.{RawHandle}
use Rattle.mc_door.specs.declared.status.TheConstants.{IN_USE, WORDS, MIX, POLICY, NO_MEMORY, BUCKETS, ITEMS, STRIPES, DEPTH, TRIES, LIMIT, HANDLES, SHARDS}

abbrev pub IsClosed : RawHandle → Type 0
IsClosed s = s.live ≡ false

-- an open handle keeps such a thing
abbrev pub Keeps : (AnySide → Type 0) → Option AnySide → Type 0
Keeps P none = ⊥
Keeps P (some h) = P h

-- one of these passes of the shards, for values of this many words
abbrev pub IsPassAt : Sharded → ℕ → List (List ReaderRecord) → RawHandle → Type 0
IsPassAt s words passes handle = Keeps (λ h. (width_of h ≡ words) × IsPassOf s passes (role_in h)) (kept handle)

-- a new pass of these shards, for values of this many words
abbrev pub IsNewPassAt : Sharded → ℕ → RawHandle → Type 0
IsNewPassAt s words handle = Keeps (λ h. (width_of h ≡ words) × IsNewPass words s (role_in h)) (kept handle)

-- the passes of `shards` new shards, each of the requested shape and policy
pub record AreOpened (raw : RawShape) (shards words : ℕ) (handles : List RawHandle) : Type 0 where
  pub sharded : Sharded
  pub shape : IsShapeOf raw sharded.shape
  pub count : length sharded.tables ≡ shards
  pub policy : GoAsAsked raw sharded.tables
  pub has_passes : All (IsNewPassAt sharded words) handles

abbrev pub open_status : OpenError → ℕ
open_status (error.Shape fault.Buckets) = BUCKETS
open_status (error.Shape fault.Items) = ITEMS
open_status (error.Shape fault.Stripes) = STRIPES
open_status (error.Shape fault.Depth) = DEPTH
open_status (error.Shape fault.Tries) = TRIES
open_status (error.Shape fault.Limit) = LIMIT
open_status error.Readers = HANDLES
open_status error.NoMemory = NO_MEMORY

abbrev pub shards_status : OpenShardsError → ℕ
shards_status shards.Shards = SHARDS
shards_status (shards.Open why) = open_status why

abbrev pub RefusesAsked : RawShape → ℕ → ℕ → Type 0
RefusesAsked raw words status =
    ((status ≡ WORDS) × (¬ IsWidth words)) ⊎ ((status ≡ MIX) × IsWidth words × (¬ HasMix raw)) ⊎
    ((status ≡ POLICY) × IsWidth words × HasMix raw × (¬ HasPolicy raw))

-- the first fault, in this order: the width, the mix, the policy, the number of shards, those of the shape, the number of handles, memory
abbrev pub RefusesOpen : RawShape → ℕ → ℕ → ℕ → ℕ → Type 0
RefusesOpen raw shards words handles status =
    RefusesAsked raw words status ⊎
    ((sh : Shape) × (why : OpenShardsError) × IsWidth words × HasMix raw × HasPolicy raw × IsShapeOf raw sh × RefusesShards sh shards handles why × (status ≡ shards_status why))

-- and before all of them: a handle is open
abbrev pub RefusesHandles : Type 0 → (ℕ → Type 0) → ℕ → Type 0
RefusesHandles AreClosed Refuses status = ((status ≡ IN_USE) × (¬ AreClosed)) ⊎ (AreClosed × Refuses status)
