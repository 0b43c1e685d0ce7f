-- Why a cache is not opened.
use Rattle.std.specs.Prelude.{ℕ}
use Rattle.mc_words.specs.Readers.{HasReaders}
use Rattle.mc_words.specs.Shapes.{IsShape, RefusesShape}
use Rattle.mc_words.specs.declared.shape.Shape.{Shape}
use Rattle.mc_cache.specs.declared.opening.OpenError.{OpenError}
use Rattle.mc_cache.specs.declared.opening.OpenError.TheVariants as error

-- the first fault of the request; if there is none, memory was refused
abbrev pub RefusesOpening : Shape → ℕ → OpenError → Type 0
RefusesOpening sh readers (error.Shape why) = RefusesShape sh why
RefusesOpening sh readers error.Readers = IsShape sh × (¬ HasReaders readers)
RefusesOpening sh readers error.NoMemory = IsShape sh × HasReaders readers
