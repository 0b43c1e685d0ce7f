-- Handles are opened one after the other.
use Rattle.std.specs.Prelude.{ℕ, ◌≡◌, ◌+◌, List, Some, length, slice_get}
use Rattle.std.specs.List.{AllWithin}
use Rattle.mc_shared.specs.Records.{ReaderRecord}
use Rattle.mc_door.specs.NewPasses.{count_on, passes_on, shards_on, width_on}
use Rattle.mc_door.specs.declared.rest.Rest.{Rest}
use Rattle.cefrodil.specs.Openings.{IsClosed, IsPassAt}
use Rattle.cefrodil.specs.declared.raw_handle.RawHandle.{RawHandle}

-- these passes are among the first, each in its place
abbrev pub AreAmong : List (List ReaderRecord) → List (List ReaderRecord) → Type 0
AreAmong first passes = (k : ℕ) (rs : List ReaderRecord) → slice_get passes k ≡ Some rs → slice_get first k ≡ Some rs

-- the first n handles have a pass of the shards, the others are closed, and as many passes are left
pub record HasPassesTo (first rest : Rest) (handles : List RawHandle) (n : ℕ) : Type 0 where
  pub shards : shards_on rest ≡ shards_on first
  pub width : width_on rest ≡ width_on first
  pub left : count_on rest + n ≡ length handles
  pub among : AreAmong (passes_on first) (passes_on rest)
  pub filled : AllWithin (IsPassAt (shards_on first) (width_on first) (passes_on first)) handles 0 n
  pub closed : AllWithin IsClosed handles n (length handles)
