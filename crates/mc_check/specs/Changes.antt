-- Which key a change belongs to.
use Rattle.std.specs.Prelude.{ℕ}
use Rattle.mc_words.specs.declared.history.Change.{Change}
use Rattle.mc_words.specs.declared.history.Change.TheVariants.{Put, Remove, Evict}

-- the key that is changed
abbrev pub key_in : {V : ℕ} → Change V → ℕ
key_in (Put k v) = k
key_in (Remove k) = k
key_in (Evict k) = k
