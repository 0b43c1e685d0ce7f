-- A list, before it is written as words.
use Rattle.std.specs.Prelude.{ℕ, Result, Ok, Err}
use Rattle.mc_words.specs.declared.no_memory.NoMemory.{NoMemory}
use Rattle.mc_cache.specs.declared.desk.DeskError.{DeskError}
use Rattle.mc_cache.specs.declared.desk.DeskError.TheVariants as desk
use Rattle.mc_door.specs.Listing.{HasStoppedList}
use Rattle.mc_door.specs.Roles.{Role}
use Rattle.mc_door.specs.declared.listed.ListError.{ListError}
use Rattle.mc_door.specs.declared.listed.ListError.TheVariants as why

-- what a turn listed
abbrev pub of_turn : {T : Type 0} → Result T (DeskError NoMemory) → Result T ListError
of_turn (Ok listed) = Ok listed
of_turn (Err desk.Held) = Err why.Held
of_turn (Err (desk.Call e)) = Err why.NoMemory

-- nothing was listed
abbrev pub RefusesOutright : (V : ℕ) → Role → Role → ListError → Type 0
RefusesOutright V role role' why.Held = HasStoppedList V desk.Held role role'
RefusesOutright V role role' (why.Count count) = ⊥
RefusesOutright V role role' why.NoMemory = (none : NoMemory) × HasStoppedList V (desk.Call none) role role'
