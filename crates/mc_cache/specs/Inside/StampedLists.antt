-- How far a list of entries with their stamps has come.
use Rattle.std.specs.Prelude.{ℕ, All, List, map, Some}
use Rattle.mc_words.specs.declared.history.Change.{Change}
use Rattle.mc_words.specs.declared.shape.Shape.{Shape}
use Rattle.mc_search.specs.Inside.Entries.{AreEntriesBelow}
use Rattle.mc_writer.specs.GivenWay.{Holds}
use Rattle.mc_writer.specs.declared.entry.Entry.{Entry}
use Rattle.mc_cache.specs.Stamped.{pair_of}

-- they are those of the keys that stand at the first n items
pub record AreStampedBelow (V : ℕ) (sh : Shape) (w : List ℕ) (h : List (Change V)) (n : ℕ) (es : List (Entry V)) : Type 0 where
  pub entries : AreEntriesBelow V sh w h n (map pair_of es)
  pub stamps : All (λ e. Holds h e.key (Some e)) es
