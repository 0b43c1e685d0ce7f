-- Two puts of a key that must be absent.
use Rattle.std.specs.Prelude.{ℕ, ◌≡◌, List, None, IsSome, Result, Ok}
use Rattle.mc_cache.specs.AbsentError.{AbsentError}
use Rattle.mc_cache.specs.Change.{Change}
use Rattle.mc_cache.specs.Plain.{Begins, map_value}
use Rattle.mc_cache.specs.Put.{Put}
use Rattle.mc_cache.specs.declared.desk.DeskError.{DeskError}

-- the map held the key after the first changes of the history, and no longer after some more
pub record WasTakenOut {V : ℕ} (h : List (Change V)) (k : ℕ) : Type 0 where
  pub early : List (Change V)
  pub late : List (Change V)
  pub begins : Begins early late
  pub ends : Begins late h
  pub held : IsSome (map_value early k)
  pub gone : map_value late k ≡ None

-- two tries to put the key 7 only if it is absent, in one history: they both did only if it was taken out
abbrev pub BothPutMeans : Result Put (DeskError AbsentError) → Result Put (DeskError AbsentError) → List (Change 1) → Type 0
BothPutMeans (Ok one) (Ok two) h = WasTakenOut h 7
BothPutMeans one two h = Unit {0}
