-- More handles of a cache that is open.
use Rattle.std.specs.Prelude.{ℕ, ◌≡◌, All, List}
use mathlib.Core.Option.{Option, none, some}
use Rattle.mc_shared.specs.Records.{ReaderRecord}
use Rattle.mc_shards.specs.Sharded.{Sharded}
use Rattle.mc_door.specs.AnySides.{role_in, width_of}
use Rattle.mc_door.specs.NewPasses.{AreOfSide}
use Rattle.mc_door.specs.declared.any_side.AnySide.{AnySide}
use Rattle.mc_door.specs.declared.shared.MoreError.{MoreError}
use Rattle.mc_door.specs.declared.shared.MoreError.TheVariants as why
use Rattle.cefrodil.specs.Openings.{IsPassAt, Keeps}
use Rattle.cefrodil.specs.declared.raw_handle.RawHandle.{RawHandle}
use Rattle.mc_door.specs.declared.status.TheConstants.{CLOSED, HANDLES, HELD, NO_MEMORY}

-- each of the handles keeps a pass of the same shards, for values of as many words
pub record AreMoreOf (h : AnySide) (handles : List RawHandle) : Type 0 where
  pub sharded : Sharded
  pub records : List (List ReaderRecord)
  pub of : AreOfSide (role_in h) sharded
  pub has_passes : All (IsPassAt sharded (width_of h) records) handles

abbrev pub MoreGives : Option AnySide → List RawHandle → Type 0
MoreGives b handles = Keeps (λ h. AreMoreOf h handles) b

abbrev pub more_status : MoreError → ℕ
more_status why.Count = HANDLES
more_status why.Held = HELD
more_status why.NoMemory = NO_MEMORY

-- the handle is not open; or it is, and there are too few passes to spare, another handle takes some, or there is no memory
abbrev pub RefusesMore : Option AnySide → ℕ → Type 0
RefusesMore none status = status ≡ CLOSED
RefusesMore (some h) status = (e : MoreError) × (status ≡ more_status e)
