-- The acts of each plan, in their order.
use Rattle.std.specs.Prelude.{ℕ, ◌+◌, List, [], ◌∷◌, ◌++◌, length}
use Rattle.mc_words.specs.declared.place.Place.{Place}
use Rattle.mc_words.specs.declared.shape.Shape.{Shape}
use Rattle.mc_words.specs.Keys.{tag_of, slot_word, item_in}
use Rattle.mc_words.specs.Places.{slot_number, slot, item}
use Rattle.mc_search.specs.Paths.{first_place}
use Rattle.mc_theory.specs.declared.act.Act.{Act}
use Rattle.mc_theory.specs.declared.act.Act.TheVariants.{Open, Slot, Item, Moment, Close}
use Rattle.mc_theory.specs.declared.act.Deed.{Deed}
use Rattle.mc_theory.specs.declared.act.Deed.TheVariants as deed

-- these words are written into the item, from its word j on
abbrev pub value_acts : ℕ → ℕ → List ℕ → List Act
value_acts i j [] = []
value_acts i j (x ∷ xs) = Item i j x ∷ value_acts i (j + 1) xs

-- a value is written into the item, and after it the stamp: the moment that the put is to have
abbrev pub payload_acts : ℕ → List ℕ → ℕ → List Act
payload_acts i v at = value_acts i 1 v ++ Item i (length v + 1) at ∷ []

-- the key is put at the free item and into the empty slot
abbrev pub fill_acts : Shape → ℕ → List ℕ → ℕ → ℕ → Place → List Act
fill_acts sh k v at i p = Open k deed.Fill ∷ Item i 0 k ∷ (payload_acts i v at ++ Slot p (slot_word (tag_of sh k) i) ∷ Moment ∷ Close ∷ [])

-- the key's item has a new value
abbrev pub renew_acts : ℕ → List ℕ → ℕ → ℕ → List Act
renew_acts k v at i = Open k deed.Renew ∷ (payload_acts i v at ++ Moment ∷ Close ∷ [])

-- the key's slot is cleared
abbrev pub take_out_acts : ℕ → Deed → Place → List Act
take_out_acts k d p = Open k d ∷ Slot p 0 ∷ Moment ∷ Close ∷ []

-- because a caller asked for it
abbrev pub remove_acts : ℕ → Place → List Act
remove_acts k p = take_out_acts k deed.Remove p

-- to make room for another key
abbrev pub evict_acts : ℕ → Place → List Act
evict_acts k p = take_out_acts k deed.Evict p

-- the key with this slot word moves from one slot to the other
abbrev pub move_acts : ℕ → ℕ → Place → Place → List Act
move_acts k word from to = Open k deed.Move ∷ Slot to word ∷ Slot from 0 ∷ Close ∷ []

-- the key of the item that the slot names
abbrev pub key_named : ℕ → Shape → List ℕ → Place → ℕ
key_named V sh w p = item V sh w (item_in (slot sh w (slot_number p))) 0

-- the moves of a path: the item at the last place moves first
abbrev pub moves_acts : ℕ → Shape → List ℕ → List Place → Place → List Act
moves_acts V sh w [] hole = []
moves_acts V sh w (p ∷ ps) hole = moves_acts V sh w ps hole ++ move_acts (key_named V sh w p) (slot sh w (slot_number p)) p (first_place ps hole)
