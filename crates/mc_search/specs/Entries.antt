-- All pairs of a key and its value that a history leaves.
use Rattle.std.specs.Prelude.{ℕ, ◌≡◌, ◌≢◌, ◌==◌, ◌+◌, ◌≤◌, AllPairs, List, [], ◌∷◌}
use Rattle.std.specs.Map.{lookup}
use Rattle.mc_words.specs.History.{value_held}
use Rattle.mc_words.specs.declared.history.Change.{Change}
use Rattle.mc_words.specs.declared.shape.Shape.{Shape}
use Rattle.mc_words.specs.Standing.{Stands}

-- they have the value that the map of the history holds for each key, and have no key twice
pub record AreEntriesOf (V : ℕ) (h : List (Change V)) (es : List (ℕ × List ℕ)) : Type 0 where
  pub values : (k : ℕ) → lookup (λ q. k == q) es ≡ value_held h k
  pub once : AllPairs (λ d e. d.0 ≢ e.0) es

-- the entries are in the order of the items at which their keys stand, from one item up to another
abbrev pub AreInOrder : ℕ → Shape → List ℕ → ℕ → ℕ → List (ℕ × List ℕ) → Type 0
AreInOrder V sh w from to [] = from ≤ to
AreInOrder V sh w from to (e ∷ es) = (i : ℕ) × (q : ℕ) × (from ≤ i) × Stands V sh w e.0 q i × AreInOrder V sh w (i + 1) to es
