-- What only private contracts say beside `Machine`.
use Rattle.std.specs.Prelude.{ℕ, ◌≡◌, ◌+◌, ◌*◌, ◌≤◌, ◌↔◌, nat_lt, if◌then◌else◌, List}
use Rattle.mc_words.specs.Places.{payload}
use Rattle.mc_words.specs.declared.history.Reply.{Reply}
use Rattle.mc_theory.specs.Lookups.{IsLookup}
use Rattle.mc_theory.specs.Readings.{Reading}
use Rattle.mc_lookup.specs.declared.lookup.Lookup.{Lookup}
use Rattle.mc_lookup.specs.declared.stage.Stage.TheVariants.{First, Over}
use Rattle.mc_lookup.specs.Machine.{shape_for, IsRemainder, steps_left}

-- a lookup at the start of a try, or over if no try is left
pub record Restarts {V : ℕ} (old new : Lookup V) : Type 0 where
  pub shape : new.checked ≡ old.checked
  pub key : new.key ≡ old.key
  pub left : (rs : List Reading) (reply : Reply V) → IsRemainder new rs reply ↔ IsLookup V (shape_for old) old.key old.tries rs reply
  pub most : steps_left new ≤ old.tries * (19 + payload V) + 1
  pub stage : new.stage ≡ (if nat_lt 0 old.tries then First else Over)
