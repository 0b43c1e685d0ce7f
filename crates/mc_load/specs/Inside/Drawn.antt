-- Keys that a worker draws, one after the other.
use Rattle.std.specs.Prelude.{ℕ, ◌≡◌, ◌+◌, ◌<◌, List, length, slice_index_or}
use Rattle.mc_load.specs.Draws.{drawn_key}
use Rattle.mc_load.specs.declared.asked.Load.{Load}

-- the keys are those that its words draw from word n on
abbrev pub AreNext : Load → ℕ → ℕ → List ℕ → Type 0
AreNext load who n keys = (k d : ℕ) → k < length keys → slice_index_or keys k d ≡ drawn_key load who (n + k)
