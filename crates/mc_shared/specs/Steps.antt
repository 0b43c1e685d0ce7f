-- What each step on a seat ensures: what is written where, and what the seat's view is after it.
use Rattle.std.specs.Prelude.{◌≡◌, ℕ, ◌-◌, ◌^◌, List, [], ◌∷◌, ◌++◌, length, Some}
use Rattle.std.specs.Int.{bit_at}
use Rattle.atomic_table.specs.Table.{Me, Step}
use Rattle.mc_words.specs.Places.{recency_place}
use Rattle.mc_words.specs.Recency.{recency_bit}
use Rattle.mc_theory.specs.Lists.{Made}
use Rattle.mc_theory.specs.Readings.{Reading}
use Rattle.mc_theory.specs.Writes.{place_read}
use Rattle.mc_theory.specs.declared.access.Access.{Access}
use Rattle.mc_theory.specs.declared.access.Access.TheVariants as access
use Rattle.mc_theory.specs.declared.act.Act.{Act}
use Rattle.mc_theory.specs.declared.act.Act.TheVariants.{Hand, Mark}
use Rattle.mc_shared.specs.TableRule.{word_after, IsRecord}
use Rattle.mc_shared.specs.ExactFronts.{InOneOrder}
use Rattle.mc_shared.specs.Views.{Note, Both, View, view_as, writer_view, reader_view, acts_of, tally_of, number_of, front_of, done_of, with_note, with_reader, AreLawful, with_bit, IsFrontOf}
use Rattle.mc_shared.specs.declared.layout.Layout.{Layout}

-- a seat's view, and the slots that it holds: none
abbrev pub SeatView : Type 0
SeatView = Me (Unit {0}) View

-- ---- the writer's steps
-- the act is none of the hand
abbrev pub IsStored : Act → Type 0
IsStored (Hand i) = ⊥
IsStored _ = Unit {0}

-- the bit that an act read: only the hand reads one
abbrev pub bit_of : Act → ℕ → ℕ
bit_of (Hand i) found = bit_at found (recency_bit i)
bit_of _ found = 0

-- the writer's record has this act more, with the bit that the step found. The rule says what the step may write, and where
abbrev pub AddsAct : Act → Step (Unit {0}) → SeatView → ℕ → SeatView → Type 0
AddsAct a st me found me' = (note : Note) × (me' ≡ (writer_view me.0.layout (acts_of me.0 ++ with_bit a (bit_of a found) ∷ []) (with_note (tally_of me.0) note), me.1))

-- and none of the hand is added so
abbrev pub StoresAct : Act → Step (Unit {0}) → SeatView → ℕ → SeatView → Type 0
StoresAct a st me found me' = IsStored a × AddsAct a st me found me'

-- the item of a mark or of the hand, and the number of the bit that a mark sets and the hand clears
abbrev pub item_of : Act → ℕ
item_of (Mark i) = i
item_of (Hand i) = i
item_of _ = 0

abbrev pub item_bit : Act → ℕ
item_bit (Mark i) = recency_bit i
item_bit (Hand i) = recency_bit i
item_bit _ = 0

-- the step is on the word that has this bit
abbrev pub IsAtBit : Act → Step (Unit {0}) → SeatView → Type 0
IsAtBit a st me = st.word ≡ recency_place me.0.layout.width me.0.layout.shape (item_of a)

-- the hand's step keeps all bits of the word but its item's: so many an `and` has as its operand
abbrev pub ClearsBit : Act → Step (Unit {0}) → SeatView → ℕ → SeatView → Type 0
ClearsBit a st me found me' = IsAtBit a st me × (st.first ≡ 2 ^ 64 - 1 - 2 ^ item_bit a) × AddsAct a st me found me'

-- a load that finds the bit of its item set is that mark, and one that finds it clear adds nothing
abbrev pub AddsActIfSet : Act → Step (Unit {0}) → SeatView → ℕ → SeatView → Type 0
AddsActIfSet a st me found me' = (bit_at found (item_bit a) ≡ 1 → StoresAct a st me found me') × (bit_at found (item_bit a) ≡ 0 → me' ≡ me)

-- a load that finds the bit of its item clear is that reading of the hand, and one that finds it set adds nothing
abbrev pub AddsActIfClear : Act → Step (Unit {0}) → SeatView → ℕ → SeatView → Type 0
AddsActIfClear a st me found me' = IsAtBit a st me × (bit_at found (item_bit a) ≡ 0 → AddsAct a st me found me') × (bit_at found (item_bit a) ≡ 1 → me' ≡ me)

-- nothing changes, and what is found is the word of the place in the writer's state
abbrev pub FetchesWord : Step (Unit {0}) → SeatView → ℕ → SeatView → Type 0
FetchesWord st me found me' = (me' ≡ me) × (found ≡ word_after me.0.layout (acts_of me.0) st.word)

-- ---- a reader's steps
abbrev pub reading : Access → ℕ → List Made → Reading
reading a word front = record { access = a; word = word; front = length front }

-- what a reading adds to a record: it is the last, at a front which the old one begins
pub record ReadsOne (l : Layout) (front : List Made) (done : List Reading) (a : Access) (word : ℕ) (front' : List Made) (done' : List Reading) : Type 0 where
  pub begins : IsFrontOf front front'
  pub adds : done' ≡ done ++ reading a word front' ∷ []
  pub lawful : AreLawful l front'
  pub recorded : IsRecord l front' done'

-- a load of the place of the access adds that reading
abbrev pub ReadsWord : Access → Step (Unit {0}) → SeatView → ℕ → SeatView → Type 0
ReadsWord a st me found me' =
    (place_read me.0.layout.width me.0.layout.shape a ≡ Some st.word)
    × (me' ≡ (reader_view me.0.layout (number_of me.0) (front_of me'.0) (done_of me'.0), me.1))
    × ReadsOne me.0.layout (front_of me.0) (done_of me.0) a found (front_of me'.0) (done_of me'.0)

-- a mark reads no word
abbrev pub mark_at : ℕ → List Made → Reading
mark_at i front = reading (access.Mark i) 0 front

-- a seat with one mark more
abbrev pub with_mark : ℕ → SeatView → SeatView
with_mark i me = (reader_view me.0.layout (number_of me.0) (front_of me.0) (done_of me.0 ++ mark_at i (front_of me.0) ∷ []), me.1)

abbrev pub AddsMark : ℕ → Step (Unit {0}) → SeatView → ℕ → SeatView → Type 0
AddsMark i st me found me' = me' ≡ with_mark i me

-- a load that finds the bit of the item set is a mark of it, and one that finds it clear adds nothing
abbrev pub AddsMarkIfSet : ℕ → Step (Unit {0}) → SeatView → ℕ → SeatView → Type 0
AddsMarkIfSet i st me found me' = (bit_at found (recency_bit i) ≡ 1 → me' ≡ with_mark i me) × (bit_at found (recency_bit i) ≡ 0 → me' ≡ me)

-- ---- a reader joined to the writer
-- what the reader saw begins the acts, its record is one of them too, and each reading was made at the front of all acts that had been made by then
abbrev pub ComparesMoment : Step (Unit {0}) → SeatView → ℕ → SeatView → Type 0
ComparesMoment st me found me' =
    (me' ≡ me) × IsFrontOf (front_of me.0) (acts_of me.0) × IsRecord me.0.layout (acts_of me.0) (done_of me.0)
    × InOneOrder (acts_of me.0) (tally_of me.0).notes (number_of me.0) (done_of me.0)
    × (found ≡ word_after me.0.layout (acts_of me.0) st.word)

-- a new reader has the next number
abbrev pub new_reader_view : View → View
new_reader_view v = reader_view v.layout (tally_of v).readers [] []

abbrev pub with_reader_view : View → View
with_reader_view v = writer_view v.layout (acts_of v) (with_reader (tally_of v))

abbrev pub joined_view : View → View → View
joined_view v w = view_as v.layout (Both (acts_of v) (tally_of v) (number_of w) (front_of w) (done_of w))

abbrev pub writer_part : View → View
writer_part v = writer_view v.layout (acts_of v) (tally_of v)

-- the reader that is split off again keeps its number, and has seen all acts
abbrev pub reader_part : View → View
reader_part v = reader_view v.layout (number_of v) (acts_of v) (done_of v)
