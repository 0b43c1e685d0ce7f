-- Lists of all entries of shards with their stamps.
use Rattle.std.specs.Prelude.{ℕ, All, List, map, Some}
use Rattle.mc_cache.specs.Stamped.{pair_of}
use Rattle.mc_words.specs.declared.history.Change.{Change}
use Rattle.mc_words.specs.declared.mix.Mix.{Mix}
use Rattle.mc_writer.specs.GivenWay.{Holds}
use Rattle.mc_writer.specs.declared.entry.Entry.{Entry}
use Rattle.mc_shards.specs.Plain.{AreEntriesOfAll, history_of}

-- they are all entries of the one map, each with its stamp: a moment of the key's shard
pub record AreStampedEntriesOfAll (V : ℕ) (mix : Mix) (hs : List (List (Change V))) (es : List (Entry V)) : Type 0 where
  pub entries : AreEntriesOfAll V mix hs (map pair_of es)
  pub stamps : All (λ e. Holds (history_of mix hs e.key) e.key (Some e)) es
