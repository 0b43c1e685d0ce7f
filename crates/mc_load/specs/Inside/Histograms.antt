-- What is written after a report.
use Rattle.std.specs.Prelude.{◌≡◌, ◌⊎◌, ℕ, List}
use Rattle.std.specs.Io.KnownBytes.{Appends}
use Rattle.mc_options.specs.Statuses.{failed}
use Rattle.mc_options.specs.Streams.{Stream}

-- some bytes were written
abbrev pub AppendsSome : Stream → ℕ → Type 0
AppendsSome output status = ((more : List ℕ) × Appends output.old output.new more) × ((status ≡ 0) ⊎ (status ≡ failed))
