-- What lies in an item.
use Rattle.std.proofs.Common.{ℕ, List, Option, Some, None, IfNone, IfSome}
use Rattle.mc_words.specs.Standing.{Stands}
use Rattle.mc_words.specs.declared.shape.Shape.{Shape}
use Rattle.mc_writer.specs.declared.entry.Entry.{Entry}
use Rattle.mc_cache.specs.Showing.{LiesAt}

pub lies : (V : ℕ) (sh : Shape) (w : List ℕ) (i : ℕ) (shown : Option (Entry V)) → IfSome shown (λ e. (q : ℕ) × Stands V sh w e.key q i) → IfNone shown ((k q : ℕ) → Stands V sh w k q i → ⊥) → LiesAt V sh w i shown
lies V sh w i (Some e) stands none = stands
lies V sh w i None stands none = none
