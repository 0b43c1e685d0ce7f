-- Lists of all entries with their stamps.
use Rattle.std.specs.Prelude.{ℕ, All, List, map, Some}
use Rattle.mc_words.specs.declared.history.Change.{Change}
use Rattle.mc_search.specs.Entries.{AreEntriesOf}
use Rattle.mc_writer.specs.GivenWay.{Holds}
use Rattle.mc_writer.specs.declared.entry.Entry.{Entry}

-- an entry without its stamp: its key and its value
abbrev pub pair_of : {V : ℕ} → Entry V → ℕ × List ℕ
pair_of entry = (entry.key, entry.value)

-- they are all entries that the map of the history holds, each with its stamp
pub record AreStampedEntriesOf (V : ℕ) (h : List (Change V)) (es : List (Entry V)) : Type 0 where
  pub entries : AreEntriesOf V h (map pair_of es)
  pub stamps : All (λ e. Holds h e.key (Some e)) es
