-- How many handles a cache can have.
use Rattle.std.specs.Prelude.{ℕ, ◌+◌, min}
use Rattle.mc_words.specs.Readers.{most_readers}

-- how many readers a shard is opened with: 64 more than there are handles, or as many as there may be
abbrev pub readers_for : ℕ → ℕ
readers_for asked = min (asked + 64) most_readers
