-- The numbers in a stage of a lookup, each in its range.
use Rattle.std.specs.Prelude.{ℕ, ◌-◌, Option, Some, None}
use Rattle.mc_lookup.specs.declared.stage.Stage.{Stage}
use Rattle.mc_lookup.specs.declared.stage.Stage.TheVariants.{First, Slot, Key, Value, Stamp, Moment, Last, Mark}

-- the slot that is read next, or that was read last
abbrev pub slot_at : Stage → ℕ
slot_at (Slot j) = j
slot_at (Key j i) = j - 1
slot_at _ = 0

abbrev pub hit_at : Option ℕ → ℕ
hit_at None = 0
hit_at (Some i) = i

-- the item whose key, value, stamp or bit is read or set next, or at which the key was found
abbrev pub item_at : Stage → ℕ
item_at (Key j i) = i
item_at (Value i c) = i
item_at (Stamp i) = i
item_at (Moment hit) = hit_at hit
item_at (Last hit at) = hit_at hit
item_at (Mark i) = i
item_at _ = 0

-- how many words of the value were read
abbrev pub word_at : Stage → ℕ
word_at (Value i c) = c
word_at _ = 0

-- the try that is about to begin
abbrev pub tries_owed : Stage → ℕ
tries_owed First = 1
tries_owed _ = 0
