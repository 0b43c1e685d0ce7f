-- The one word that an act writes, and the one that an access reads.
use Rattle.std.specs.Prelude.{ℕ, ◌≡◌, ◌+◌, ◌^◌, ◌<◌, ◌≤◌, All, List, length, Option, Some, None, slice_index, slice_set}
use Rattle.mc_words.specs.History.{IsWord}
use Rattle.mc_words.specs.Keys.{stripe_of}
use Rattle.mc_words.specs.Places.{payload, IsPlace, slot_number, version_place, slot_place, item_place, word_count, moment, version}
use Rattle.mc_words.specs.Shapes.{IsShape}
use Rattle.mc_words.specs.declared.shape.Shape.{Shape}
use Rattle.mc_theory.specs.Acts.{IsAllowed}
use Rattle.mc_theory.specs.Effects.{after_act}
use Rattle.mc_theory.specs.Lists.{Made, IsLawful, state_of, front}
use Rattle.mc_theory.specs.Phases.{Phase, deed_key}
use Rattle.mc_theory.specs.Readings.{IsWordOf}
use Rattle.mc_theory.specs.declared.access.Access.{Access}
use Rattle.mc_theory.specs.declared.access.Access.TheVariants as access
use Rattle.mc_theory.specs.declared.act.Act.{Act}
use Rattle.mc_theory.specs.declared.act.Act.TheVariants as act

-- a place and the word that is written there
abbrev pub bump_of : Shape → List ℕ → Option ℕ → Option (ℕ × ℕ)
bump_of sh w None = None
bump_of sh w (Some k) = Some (version_place (stripe_of sh k), version w (stripe_of sh k) + 1)

-- acts on recency bits write none of these words
abbrev pub write_of : ℕ → Shape → List ℕ → Phase → Act → Option (ℕ × ℕ)
write_of V sh w p (act.Open k d) = bump_of sh w (Some k)
write_of V sh w p (act.Slot q x) = Some (slot_place sh (slot_number q), x)
write_of V sh w p (act.Item i j x) = Some (item_place V sh i j, x)
write_of V sh w p act.Moment = Some (0, moment w + 1)
write_of V sh w p act.Close = bump_of sh w (deed_key p)
write_of V sh w p (act.Hand i) = None
write_of V sh w p (act.Mark i) = None

-- the words after a write
abbrev pub with_write : List ℕ → Option (ℕ × ℕ) → List ℕ
with_write w None = w
with_write w (Some at) = slice_set w at.0 at.1

-- the place is one of these words, and the word is below 2^64
abbrev pub FitsIn : List ℕ → Option (ℕ × ℕ) → Type 0
FitsIn w None = Unit {0}
FitsIn w (Some at) = (at.0 < length w) × (at.1 < 2 ^ 64)

-- an allowed act changes the word that it names to the word that it names, and no other
abbrev pub WritesItsWord : ℕ → Type 0
WritesItsWord V =
    (sh : Shape) (acts : List Made) (m : Made) → IsShape sh → IsLawful V sh acts → IsAllowed sh (state_of V sh acts) m.act →
    (state_of V sh acts).version_steps ≤ 2 ^ 62 →
    ((after_act sh (state_of V sh acts) m.act m.bit).words ≡ with_write (state_of V sh acts).words (write_of V sh (state_of V sh acts).words (state_of V sh acts).phase m.act)) ×
    FitsIn (state_of V sh acts).words (write_of V sh (state_of V sh acts).words (state_of V sh acts).phase m.act)

-- the slot, the item and the word of an item that an act names belong to a table of this shape
abbrev pub NamesIn : ℕ → Shape → Act → Type 0
NamesIn V sh (act.Slot p x) = IsPlace sh p
NamesIn V sh (act.Item i j x) = (i < sh.items) × (j ≤ payload V)
NamesIn V sh (act.Hand i) = i < sh.items
NamesIn V sh (act.Mark i) = i < sh.items
NamesIn V sh (act.Open k d) = Unit {0}
NamesIn V sh act.Moment = Unit {0}
NamesIn V sh act.Close = Unit {0}

-- what an allowed act names belongs to the table
abbrev pub ActsNameTheTable : ℕ → Type 0
ActsNameTheTable V =
    (sh : Shape) (acts : List Made) (a : Act) → IsShape sh → IsLawful V sh acts → IsAllowed sh (state_of V sh acts) a → NamesIn V sh a

-- no act changes the number of words
abbrev pub KeepsItsWords : ℕ → Type 0
KeepsItsWords V = (sh : Shape) (acts : List Made) (f : ℕ) → length (front V sh acts f).words ≡ word_count V sh

-- while there were fewer than 2^64 version changes, each word is below 2^64
abbrev pub WordsFit : ℕ → Type 0
WordsFit V =
    (sh : Shape) (acts : List Made) (f : ℕ) → IsShape sh → IsLawful V sh acts → (front V sh acts f).version_steps < 2 ^ 64 → All IsWord (front V sh acts f).words

-- the place that an access reads; a mark reads none
abbrev pub place_read : ℕ → Shape → Access → Option ℕ
place_read V sh (access.Version t) = Some (version_place t)
place_read V sh (access.Slot p) = Some (slot_place sh (slot_number p))
place_read V sh (access.Key i) = Some (item_place V sh i 0)
place_read V sh (access.Value i j) = Some (item_place V sh i j)
place_read V sh (access.Stamp i) = Some (item_place V sh i (payload V))
place_read V sh access.Moment = Some 0
place_read V sh (access.Mark i) = None

-- the access is one of a table of this shape
abbrev pub IsAccess : ℕ → Shape → Access → Type 0
IsAccess V sh (access.Version t) = t < sh.stripes
IsAccess V sh (access.Slot p) = IsPlace sh p
IsAccess V sh (access.Key i) = i < sh.items
IsAccess V sh (access.Value i j) = (i < sh.items) × (1 ≤ j) × (j ≤ V)
IsAccess V sh (access.Stamp i) = i < sh.items
IsAccess V sh access.Moment = Unit {0}
IsAccess V sh (access.Mark i) = i < sh.items

-- an access reads the word at its place, which is one of the table
abbrev pub ReadsItsWord : ℕ → Type 0
ReadsItsWord V =
    (sh : Shape) (w : List ℕ) (a : Access) (n : ℕ) → place_read V sh a ≡ Some n →
    IsWordOf V sh w a (slice_index w n) × (IsAccess V sh a → n < word_count V sh)
