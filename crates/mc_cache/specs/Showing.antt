-- The entry that lies in an item of the table.
use Rattle.std.specs.Prelude.{ℕ, ◌≡◌, List, Option, Some, None, Result, Ok, Err}
use Rattle.std.specs.declared.convert.Infallible.{Infallible}
use Rattle.mc_words.specs.Standing.{Stands}
use Rattle.mc_words.specs.declared.history.Change.{Change}
use Rattle.mc_words.specs.declared.shape.Shape.{Shape}
use Rattle.mc_theory.specs.Lists.{state_of}
use Rattle.mc_shared.specs.Records.{WriterRecord}
use Rattle.mc_writer.specs.GivenWay.{Holds}
use Rattle.mc_writer.specs.declared.entry.Entry.{Entry}

-- the entry's key stands at this item; without an entry, no key does
abbrev pub LiesAt : (V : ℕ) → Shape → List ℕ → ℕ → Option (Entry V) → Type 0
LiesAt V sh w i (Some entry) = (q : ℕ) × Stands V sh w entry.key q i
LiesAt V sh w i None = (k q : ℕ) → Stands V sh w k q i → ⊥

-- a look at an item changes nothing, and never fails
abbrev pub HasShown : (V : ℕ) → Shape → ℕ → WriterRecord → WriterRecord → Result (Option (Entry V)) Infallible → Type 0
HasShown V sh i w w' (Ok shown) = (w' ≡ w) × LiesAt V sh (state_of V sh w.acts).words i shown
HasShown V sh i w w' (Err never) = ⊥

-- what it shows is what the map holds of its key
abbrev pub ShowMeans : (V : ℕ) → List (Change V) → List (Change V) → Result (Option (Entry V)) Infallible → Type 0
ShowMeans V h h' (Ok (Some entry)) = Holds h entry.key (Some entry) × (h' ≡ h)
ShowMeans V h h' (Ok None) = h' ≡ h
ShowMeans V h h' (Err never) = ⊥
