-- A list by what is behind a handle, when its width is known.
use Rattle.std.proofs.Common.{ℕ, ◌≡◌, List, MatchResult, Result, length, subst, sym}
use Rattle.mc_door.specs.AnySides.{role_in, width_of}
use Rattle.mc_door.specs.Listing.{HasListed, RefusesList}
use Rattle.mc_door.specs.Roles.{Role}
use Rattle.mc_door.specs.StampedListing.{HasListedStamped, RefusesStampedList}
use Rattle.mc_door.specs.declared.any_side.AnySide.{AnySide}
use Rattle.mc_door.specs.declared.listed.ListError.{ListError}

pub listed_by : (h h' : AnySide) (role' : Role) (old new : List ℕ) (made : Result ℕ ListError) → h ≡ h'
    → MatchResult made (λ count. HasListedStamped (width_of h') (role_in h') role' old new count) (λ e. RefusesStampedList (width_of h') (role_in h') role' (length old) e × (new ≡ old))
    → MatchResult made (λ count. HasListedStamped (width_of h) (role_in h) role' old new count) (λ e. RefusesStampedList (width_of h) (role_in h) role' (length old) e × (new ≡ old))
listed_by h h' role' old new made is holds =
    subst (λ (x : AnySide). MatchResult made (λ count. HasListedStamped (width_of x) (role_in x) role' old new count) (λ e. RefusesStampedList (width_of x) (role_in x) role' (length old) e × (new ≡ old))) (sym is) holds

pub entries_by : (h h' : AnySide) (role' : Role) (old new : List ℕ) (made : Result ℕ ListError) → h ≡ h'
    → MatchResult made (λ count. HasListed (width_of h') role' old new count) (λ e. RefusesList (width_of h') (role_in h') role' (length old) e × (new ≡ old))
    → MatchResult made (λ count. HasListed (width_of h) role' old new count) (λ e. RefusesList (width_of h) (role_in h) role' (length old) e × (new ≡ old))
entries_by h h' role' old new made is holds =
    subst (λ (x : AnySide). MatchResult made (λ count. HasListed (width_of x) role' old new count) (λ e. RefusesList (width_of x) (role_in x) role' (length old) e × (new ≡ old))) (sym is) holds
