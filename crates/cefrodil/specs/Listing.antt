-- Entries, as the calls by handles list them.
use Rattle.std.specs.Prelude.{ℕ, ◌≡◌, List, length, MatchResult, Result, Ok, Err}
use mathlib.Core.Option.{Option}
use Rattle.mc_door.specs.AnySides.{role_in, width_of}
use Rattle.mc_door.specs.Listing.{HasListed, RefusesList, SeesMore}
use Rattle.mc_door.specs.StampedListing.{HasListedStamped, RefusesStampedList}
use Rattle.mc_door.specs.declared.any_side.AnySide.{AnySide}
use Rattle.mc_door.specs.declared.listed.ListError.{ListError}
use Rattle.mc_door.specs.declared.listed.ListError.TheVariants as why
use Rattle.cefrodil.specs.Calls.{Gives}
use Rattle.mc_door.specs.declared.status.TheConstants.{OK, CLOSED, COUNT, HELD, NO_MEMORY}

-- the status; and how many entries there are, if that is known
abbrev pub TellsList : Result ℕ ListError → ℕ → ℕ → ℕ → Type 0
TellsList (Ok many) old new status = (status ≡ OK) × (new ≡ many)
TellsList (Err why.Held) old new status = (status ≡ HELD) × (new ≡ old)
TellsList (Err (why.Count many)) old new status = (status ≡ COUNT) × (new ≡ many)
TellsList (Err why.NoMemory) old new status = (status ≡ NO_MEMORY) × (new ≡ old)

-- the entries were written, or there was a reason why not, and then nothing was written
pub record HasMadeList (h h' : AnySide) (old new : List ℕ) (count count' status : ℕ) : Type 0 where
  pub width : width_of h' ≡ width_of h
  pub more : SeesMore (width_of h) (role_in h) (role_in h')
  pub made : Result ℕ ListError
  pub means : MatchResult made (λ many. HasListed (width_of h) (role_in h') old new many)
      (λ e. RefusesList (width_of h) (role_in h) (role_in h') (length old) e × (new ≡ old))
  pub told : TellsList made count count' status

abbrev pub ListGives : Option AnySide → Option AnySide → List ℕ → List ℕ → ℕ → ℕ → ℕ → Type 0
ListGives b b' old new count count' status =
    Gives b b' ((status ≡ CLOSED) × (new ≡ old) × (count' ≡ count)) (λ h h'. HasMadeList h h' old new count count' status)

-- the entries were written with their stamps, or there was a reason why not, and then nothing was written
pub record HasMadeStampedList (h h' : AnySide) (old new : List ℕ) (count count' status : ℕ) : Type 0 where
  pub width : width_of h' ≡ width_of h
  pub made : Result ℕ ListError
  pub means : MatchResult made (λ many. HasListedStamped (width_of h) (role_in h) (role_in h') old new many)
      (λ e. RefusesStampedList (width_of h) (role_in h) (role_in h') (length old) e × (new ≡ old))
  pub told : TellsList made count count' status

abbrev pub StampedListGives : Option AnySide → Option AnySide → List ℕ → List ℕ → ℕ → ℕ → ℕ → Type 0
StampedListGives b b' old new count count' status =
    Gives b b' ((status ≡ CLOSED) × (new ≡ old) × (count' ≡ count)) (λ h h'. HasMadeStampedList h h' old new count count' status)
