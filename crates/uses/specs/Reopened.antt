-- Shards that are opened anew with the entries of those that were closed.
use Rattle.std.specs.Prelude.{ℕ, ◌≡◌, List, [], All}
use Rattle.mc_words.specs.History.{value_held}
use Rattle.mc_cache.specs.Change.{Change}
use Rattle.mc_shared.specs.Records.{ReaderRecord}
use Rattle.mc_shards.specs.Plain.{AllBegin, history_of, seens}
use Rattle.mc_words.specs.declared.mix.Mix.{Mix}

-- the old shards had come to some histories, which what their pass had seen begins, and every new pass has seen those of the new shards. If
-- no entry is left out, the new map holds of each key the value that the old one held
pub record AreReopened {Left : Type 0} (mix mix' : Mix) (before : List (List (Change 1))) (passes : List (List ReaderRecord)) (left : List Left) : Type 0 where
  pub old : List (List (Change 1))
  pub new : List (List (Change 1))
  pub begin : AllBegin before old
  pub seen : All (λ rs. seens 1 rs ≡ new) passes
  pub same : left ≡ [] → (k : ℕ) → value_held (history_of mix' new k) k ≡ value_held (history_of mix old k) k
