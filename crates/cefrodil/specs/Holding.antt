-- The turns of all shards are held, or given back, as the calls by a handle do it.
use Rattle.std.specs.Prelude.{ℕ, ◌≡◌, Bool, true, false, MatchBool, MatchResult, Result, Ok, Err}
use mathlib.Core.Option.{Option}
use Rattle.mc_door.specs.AnySides.{role_in, width_of}
use Rattle.mc_door.specs.Held.{BeginsToHold, HasReleased, IsHolding, RefusesToHold}
use Rattle.mc_door.specs.declared.any_side.AnySide.{AnySide}
use Rattle.mc_door.specs.declared.holding.HoldError.{HoldError}
use Rattle.mc_door.specs.declared.holding.HoldError.TheVariants as why
use Rattle.cefrodil.specs.Calls.{Gives}
use Rattle.mc_door.specs.declared.status.TheConstants.{OK, CLOSED, HELD, HOLDS, HOLDS_NOT}

abbrev pub hold_told : Result (Unit {0}) HoldError → ℕ
hold_told (Ok done) = OK
hold_told (Err why.Holds) = HOLDS
hold_told (Err why.Held) = HELD

-- every turn is held; or none is, and nothing has changed
pub record HasTriedToHold (h h' : AnySide) (status : ℕ) : Type 0 where
  pub width : width_of h' ≡ width_of h
  pub made : Result (Unit {0}) HoldError
  pub is : MatchResult made (λ done. BeginsToHold (width_of h) (role_in h) (role_in h')) (λ e. RefusesToHold (role_in h) e × (role_in h' ≡ role_in h))
  pub told : status ≡ hold_told made

abbrev pub HoldGives : Option AnySide → Option AnySide → ℕ → Type 0
HoldGives b b' status = Gives b b' (status ≡ CLOSED) (λ h h'. HasTriedToHold h h' status)

abbrev pub release_told : Bool → ℕ
release_told true = OK
release_told false = HOLDS_NOT

-- every turn is given back; or the handle held none, and nothing has changed
pub record HasTriedToRelease (h h' : AnySide) (status : ℕ) : Type 0 where
  pub width : width_of h' ≡ width_of h
  pub made : Bool
  pub is : MatchBool made (HasReleased (width_of h) (role_in h) (role_in h')) ((¬ IsHolding (role_in h)) × (role_in h' ≡ role_in h))
  pub told : status ≡ release_told made

abbrev pub ReleaseGives : Option AnySide → Option AnySide → ℕ → Type 0
ReleaseGives b b' status = Gives b b' (status ≡ CLOSED) (λ h h'. HasTriedToRelease h h' status)
