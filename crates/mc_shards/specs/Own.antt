-- The entries of one shard.
use Rattle.std.specs.Prelude.{ℕ, ◌==◌, List, filter}
use Rattle.mc_words.specs.Keys.{shard_of}
use Rattle.mc_words.specs.declared.mix.Mix.{Mix}

-- the entries whose keys belong to shard n of `many`
abbrev pub own_of : Mix → ℕ → ℕ → List (ℕ × List ℕ) → List (ℕ × List ℕ)
own_of mix many n es = filter (λ e. shard_of mix many e.0 == n) es
