-- How many keys shards hold, and how many changes were made to them.
use Rattle.std.specs.Prelude.{ℕ, List, length, sum_by}
use Rattle.mc_words.specs.History.{key_count}
use Rattle.mc_words.specs.declared.history.Change.{Change}

-- how many keys the maps of these histories hold, all together
abbrev pub keys_in_all : {V : ℕ} → List (List (Change V)) → ℕ
keys_in_all hs = sum_by key_count hs

abbrev pub changes_in_all : {V : ℕ} → List (List (Change V)) → ℕ
changes_in_all hs = sum_by length hs
