-- What only private contracts say of steps, beside `Steps`.
use Rattle.std.specs.Prelude.{◌≡◌, ℕ, ◌-◌, ◌^◌, List, [], ◌∷◌, ◌++◌, Some}
use Rattle.mc_words.specs.Places.{recency_place}
use Rattle.mc_words.specs.Recency.{recency_bit}
use Rattle.mc_theory.specs.Lists.{Made}
use Rattle.mc_theory.specs.Writes.{write_of}
use Rattle.mc_theory.specs.declared.act.Act.{Act}
use Rattle.mc_theory.specs.declared.act.Act.TheVariants.{Slot, Item, Hand, Mark}
use Rattle.mc_shared.specs.Steps.{SeatView}
use Rattle.mc_shared.specs.Views.{Note, tally_of, layout_state}
use Rattle.mc_shared.specs.declared.layout.Layout.{Layout}

-- a word with the bit of the item alone, and one with all bits but that
abbrev pub only : ℕ → ℕ
only i = 2 ^ recency_bit i

abbrev pub all_but : ℕ → ℕ
all_but i = 2 ^ 64 - 1 - only i

-- the word at which an act is made, and what it writes there: of a recency word, which bits are kept by an `and`, or set by an `or`
abbrev pub WritesAt : Layout → List Made → Act → ℕ → ℕ → Type 0
WritesAt l acts (Hand i) n x = (n ≡ recency_place l.width l.shape i) × (x ≡ all_but i)
WritesAt l acts (Mark i) n x = (n ≡ recency_place l.width l.shape i) × (x ≡ only i)
WritesAt l acts a n x = write_of l.width l.shape (layout_state l acts).words (layout_state l acts).phase a ≡ Some (n, x)

-- the seat has one note more
abbrev pub AddsNote : SeatView → SeatView → Type 0
AddsNote me me' = (note : Note) × ((tally_of me'.0).notes ≡ (tally_of me.0).notes ++ note ∷ [])

-- the act is on no recency bit
abbrev pub IsOffBits : Act → Type 0
IsOffBits (Hand i) = ⊥
IsOffBits (Mark i) = ⊥
IsOffBits _ = Unit {0}

-- the act changes neither the moment nor a version
abbrev pub IsPlain : Act → Type 0
IsPlain (Slot p x) = Unit {0}
IsPlain (Item i j x) = Unit {0}
IsPlain (Hand i) = Unit {0}
IsPlain (Mark i) = Unit {0}
IsPlain _ = ⊥
