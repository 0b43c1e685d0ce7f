-- The state of the table and of its writer. Recency bits are no part of it.
use Rattle.std.specs.Prelude.{ℕ, List, [], Option, None, replicate}
use Rattle.mc_words.specs.Places.{word_count}
use Rattle.mc_words.specs.declared.history.Change.{Change}
use Rattle.mc_words.specs.declared.shape.Shape.{Shape}
use Rattle.mc_theory.specs.Phases.{Phase, Quiet}

-- cleared is the item whose bit the hand found clear, if nothing was opened or swept since; changes counts the version changes
pub record State (V : ℕ) : Type 0 where
  pub words : List ℕ
  pub phase : Phase
  pub hand : ℕ
  pub cleared : Option ℕ
  pub history : List (Change V)
  pub version_steps : ℕ

-- the state of a new table
unfoldable pub opening : (V : ℕ) → Shape → State V
opening V sh = record {
  words = replicate (word_count V sh) 0;
  phase = Quiet;
  hand = 0;
  cleared = None;
  history = [];
  version_steps = 0;
}
