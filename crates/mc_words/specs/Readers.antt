-- How many readers there may be.
use Rattle.std.specs.Prelude.{ℕ, ◌≤◌}

abbrev pub most_readers : ℕ
most_readers = 1024

abbrev pub HasReaders : ℕ → Type 0
HasReaders readers = (1 ≤ readers) × (readers ≤ most_readers)
