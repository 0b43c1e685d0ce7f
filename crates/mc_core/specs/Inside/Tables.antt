-- The words of a world, as contracts see them.
use Rattle.std.specs.Prelude.{ℕ, ◌≡◌, List}
use Rattle.mc_words.specs.Checks.{shape_of}
use Rattle.mc_words.specs.Places.{IsPlace, slot_number}
use Rattle.mc_words.specs.Standing.{Stands}
use Rattle.mc_words.specs.declared.place.Place.{Place}
use Rattle.mc_words.specs.declared.shape.Shape.{Shape}
use Rattle.mc_core.specs.declared.table.Table.{Table}

abbrev pub shape_of_table : {V : ℕ} → Table V → Shape
shape_of_table t = shape_of t.checked

abbrev pub words_of_table : {V : ℕ} → Table V → List ℕ
words_of_table t = t.words.items

-- the key stands in the slot at this place, at the item
abbrev pub StandsAt : ℕ → Shape → List ℕ → ℕ → Place → ℕ → Type 0
StandsAt V sh w k p i = IsPlace sh p × Stands V sh w k (slot_number p) i

-- the words are these now, and nothing else of the table is changed
pub record WritesTable {V : ℕ} (old new : Table V) (after : List ℕ) : Type 0 where
  pub words : new.words.items ≡ after
  pub shape : new.checked ≡ old.checked
  pub used : new.used ≡ old.used
  pub free : new.free ≡ old.free
