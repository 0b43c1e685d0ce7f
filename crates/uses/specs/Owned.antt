-- What becomes of the entries of a map at a call that returns the one that gives way.
use Rattle.std.specs.Prelude.{ℕ, ◌≡◌, ◌⊎◌, List, [], ◌∷◌, ◌++◌, Option, Some, None, IfSome}
use Rattle.mc_cache.specs.Change.{Change}
use Rattle.mc_cache.specs.Entry.{Entry}
use Rattle.mc_cache.specs.Plain.{map_value}

-- the map of the history has the entry
abbrev pub HasEntry : List (Change 1) → Entry 1 → Type 0
HasEntry h entry = map_value h entry.key ≡ Some (entry.value ++ entry.since ∷ [])

-- the entry that was returned is that of the key, with this value and stamp
abbrev pub IsEntryOf : ℕ → List ℕ → Option (Entry 1) → Type 0
IsEntryOf k held (Some entry) = (entry.key ≡ k) × (entry.value ++ entry.since ∷ [] ≡ held)
IsEntryOf k held None = ⊥

-- each entry that the map held it still holds, or it was returned; an entry that was returned was held, and is no longer
pub record LosesNone (h h' : List (Change 1)) (returned : Option (Entry 1)) : Type 0 where
  pub each : (k : ℕ) (held : List ℕ) → map_value h k ≡ Some held → (map_value h' k ≡ Some held) ⊎ IsEntryOf k held returned
  pub was : IfSome returned (HasEntry h)
  pub gone : IfSome returned (λ entry. ¬ HasEntry h' entry)
