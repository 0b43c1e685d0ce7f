-- Numbers of a cache, as the calls by handles tell them.
use Rattle.std.specs.Prelude.{ℕ, ◌≡◌, MatchOption, Option as Known}
use mathlib.Core.Option.{Option}
use Rattle.mc_cache.specs.declared.desk.DeskError.TheVariants as desk
use Rattle.mc_door.specs.Counting.{Counts}
use Rattle.mc_door.specs.AnySides.{role_in, width_of}
use Rattle.mc_door.specs.Held.{IsHeldOff}
use Rattle.mc_door.specs.Listing.{HasStoppedList, SeesMore}
use Rattle.mc_door.specs.Means.{CapacityIs, MomentIs}
use Rattle.mc_door.specs.declared.any_side.AnySide.{AnySide}
use Rattle.cefrodil.specs.Calls.{Gives}
use Rattle.mc_door.specs.declared.status.TheConstants.{OK, CLOSED, HELD}

-- the number was written; or a try for a turn was held, and nothing was
pub record HasTold (Is : ℕ → Type 0) (Held : Type 0) (old new status : ℕ) : Type 0 where
  pub known : Known ℕ
  pub is : MatchOption known Held Is
  pub told : MatchOption known ((status ≡ HELD) × (new ≡ old)) (λ n. (status ≡ OK) × (new ≡ n))

abbrev pub MomentGives : Option AnySide → Option AnySide → ℕ → ℕ → ℕ → Type 0
MomentGives b b' old new status = Gives b b' ((status ≡ CLOSED) × (new ≡ old)) (λ h h'. (width_of h' ≡ width_of h) ×
    HasTold (λ n. SeesMore (width_of h) (role_in h) (role_in h') × MomentIs (width_of h) (role_in h') n) (IsHeldOff (role_in h) (role_in h')) old new status)

abbrev pub CapacityGives : Option AnySide → Option AnySide → ℕ → ℕ → ℕ → Type 0
CapacityGives b b' old new status = Gives b b' ((status ≡ CLOSED) × (new ≡ old)) (λ h h'. (h' ≡ h) × (status ≡ OK) × CapacityIs (width_of h) (role_in h) new)

-- the handle is as it was
abbrev pub PrefetchGives : Option AnySide → Option AnySide → ℕ → Type 0
PrefetchGives b b' status = Gives b b' (status ≡ CLOSED) (λ h h'. (h' ≡ h) × (status ≡ OK))

abbrev pub LenGives : Option AnySide → Option AnySide → ℕ → ℕ → ℕ → Type 0
LenGives b b' old new status = Gives b b' ((status ≡ CLOSED) × (new ≡ old)) (λ h h'. (width_of h' ≡ width_of h) ×
    HasTold (Counts (width_of h) (role_in h) (role_in h')) (HasStoppedList (width_of h) desk.Held (role_in h) (role_in h')) old new status)
