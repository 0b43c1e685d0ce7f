-- Lists of entries with their stamps, one item after the other.
use Rattle.std.proofs.Common.{ℕ, ◌≡◌, ◌+◌, ◌∷◌, ◌++◌, [], List, None, Some, map, subst, sym}
use Rattle.std.proofs.lemmas.List.{map-append}
use Rattle.std.proofs.lemmas.List.Elements.{All-push}
use Rattle.mc_words.specs.History.{value_held}
use Rattle.mc_words.specs.Standing.{Agrees, Stands}
use Rattle.mc_words.specs.declared.history.Change.{Change}
use Rattle.mc_words.specs.declared.shape.Shape.{Shape}
use Rattle.mc_search.specs.Inside.Entries.{AreEntriesBelow}
use Rattle.mc_search.proofs.EntryLists.{all_entries, none_more, one_more}
use Rattle.mc_writer.specs.GivenWay.{Holds}
use Rattle.mc_writer.specs.declared.entry.Entry.{Entry}
use Rattle.mc_cache.specs.Inside.StampedLists.{AreStampedBelow}
use Rattle.mc_cache.specs.Stamped.{AreStampedEntriesOf, pair_of}

-- an entry at the next item
pub one_stamped : (V : ℕ) (sh : Shape) (w : List ℕ) (h : List (Change V)) (n q : ℕ) (e : Entry V) (es : List (Entry V)) → Agrees V sh w None h → AreStampedBelow V sh w h n es
    → Stands V sh w e.key q n → value_held h e.key ≡ Some e.value → Holds h e.key (Some e) → AreStampedBelow V sh w h (n + 1) (es ++ e ∷ [])
one_stamped V sh w h n q e es agrees b stands value holds = record {
  entries = subst (AreEntriesBelow V sh w h (n + 1)) (sym (map-append pair_of es (e ∷ []))) (one_more V sh w h n q e.key e.value (map pair_of es) agrees b.entries stands value);
  stamps = All-push (λ (x : Entry V). Holds h x.key (Some x)) es e b.stamps holds;
}

-- an item without an entry
pub no_more_stamped : (V : ℕ) (sh : Shape) (w : List ℕ) (h : List (Change V)) (n : ℕ) (es : List (Entry V)) → AreStampedBelow V sh w h n es → ((k q : ℕ) → Stands V sh w k q n → ⊥) → AreStampedBelow V sh w h (n + 1) es
no_more_stamped V sh w h n es b unused = record { entries = none_more V sh w h n (map pair_of es) b.entries unused; stamps = b.stamps }

pub all_stamped : (V : ℕ) (sh : Shape) (w : List ℕ) (h : List (Change V)) (es : List (Entry V)) → Agrees V sh w None h → AreStampedBelow V sh w h sh.items es → AreStampedEntriesOf V h es
all_stamped V sh w h es agrees b = record { entries = all_entries V sh w h (map pair_of es) agrees b.entries; stamps = b.stamps }
