-- A call that a turn makes with the writer.
use Rattle.std.specs.Prelude.{ℕ, ◌≡◌, List, Result}
use Rattle.mc_words.specs.Places.{IsWidth}
use Rattle.mc_words.specs.declared.history.Change.{Change}
use Rattle.mc_words.specs.declared.shape.Shape.{Shape}
use Rattle.mc_shared.specs.Records.{Opening, WriterRecord}
use Rattle.mc_cache.specs.Failing.{version_changes}
use Rattle.mc_cache.specs.Plain.{history}

-- what a call that answers so does to the writer's record; what it means for the histories before it and after it; and when it may fail.
-- That speaks of the history and the number of version changes after it
pub record Contract (V : ℕ) (T E : Type 0) : Type 1 where
  pub called : Shape → Result T E → WriterRecord → WriterRecord → Type 0
  pub means : List (Change V) → List (Change V) → Result T E → Type 0
  pub fails : Shape → List (Change V) → ℕ → Result T E → Type 0

-- a call with this contract was made with the writer of this table, and answered so
pub record HasMade {V : ℕ} {T E : Type 0} (c : Contract V T E) (o : Opening) (told : Result T E) (w w' : WriterRecord) : Type 0 where
  pub of : w'.of ≡ w.of
  pub called : c.called o.layout.shape told w w'
  pub means : c.means (history V w) (history V w') told
  pub fails : c.fails o.layout.shape (history V w') (version_changes V w') told

-- the writer of a table whose values have V words, ready for a call
abbrev pub CanMake : ℕ → Opening → WriterRecord → Type 0
CanMake V o w = (w.of ≡ o) × IsWidth V
