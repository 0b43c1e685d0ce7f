-- How far a list of entries has come.
use Rattle.std.specs.Prelude.{ℕ, ◌≡◌, ◌≢◌, ◌<◌, ◌==◌, AllPairs, List, None}
use Rattle.std.specs.Map.{lookup}
use Rattle.mc_words.specs.History.{value_held}
use Rattle.mc_words.specs.Standing.{Stands}
use Rattle.mc_words.specs.declared.history.Change.{Change}
use Rattle.mc_words.specs.declared.shape.Shape.{Shape}
use Rattle.mc_search.specs.Entries.{AreInOrder}

-- they are those of the keys that stand at the first n items
pub record AreEntriesBelow (V : ℕ) (sh : Shape) (w : List ℕ) (h : List (Change V)) (n : ℕ) (es : List (ℕ × List ℕ)) : Type 0 where
  pub here : (k q i : ℕ) → i < n → Stands V sh w k q i → lookup (λ x. k == x) es ≡ value_held h k
  pub away : (k : ℕ) → ((q i : ℕ) → i < n → Stands V sh w k q i → ⊥) → lookup (λ x. k == x) es ≡ None
  pub once : AllPairs (λ d e. d.0 ≢ e.0) es
  pub order : AreInOrder V sh w 0 n es
