-- What the rule says of each reading, that it is of the newest words, and what follows for a lookup.
use Rattle.std.specs.Prelude.{◌≡◌, ◌≢◌, ℕ, ◌+◌, ◌-◌, ◌^◌, ◌<◌, ◌≤◌, ◌==◌, if◌then◌else◌, List, [], ◌∷◌, ◌++◌, length, slice_index, slice_set, Some}
use Rattle.std.specs.Int.{bit_at}
use lib.Bits.{bit_and}
use mathlib.Core.Option.{some, none}
use lib.ListN.{get_elem?}
use Rattle.atomic_table.specs.Table as table
use Rattle.mc_words.specs.declared.policy.Policy.{Policy}
use Rattle.mc_words.specs.History.{IsTrueAnswer}
use Rattle.mc_words.specs.Places.{word_count, recency_place}
use Rattle.mc_words.specs.Recency.{recency_bit}
use Rattle.mc_words.specs.Shapes.{IsShape}
use Rattle.mc_words.specs.declared.history.Reply.{Reply}
use Rattle.mc_words.specs.declared.shape.Shape.{Shape}
use Rattle.mc_theory.specs.Lists.{Made, IsLawful, front, state_of}
use Rattle.mc_theory.specs.Lookups.{IsLookup}
use Rattle.mc_theory.specs.Plain.{IsBetween}
use Rattle.mc_theory.specs.Readings.{Reading, IsWordOf}
use Rattle.mc_theory.specs.Writes.{place_read}
use Rattle.mc_theory.specs.declared.access.Access.{Access}
use Rattle.mc_theory.specs.declared.access.Access.TheVariants as access
use Rattle.mc_theory.specs.declared.act.Act.TheVariants.{Hand}
use Rattle.mc_shared.specs.ExactFronts.{steps_by, made_by, IsReading, StandsAt, IsExact, InOneOrder}
use Rattle.mc_shared.specs.TableRule.{IsRecord, Ruled, bit_in}
use Rattle.mc_shared.specs.Views.{Note, Tally, View, reader_view, writer_view, with_bit, with_note, front_of, layout_with, layout_state, IsFrontOf}
use Rattle.mc_shared.specs.Steps.{reading, mark_at, ReadsWord, AddsMark, AddsMarkIfSet, AddsActIfClear, ClearsBit}
use Rattle.mc_shared.specs.declared.layout.Layout.{Layout}

-- two states of a table under its rule, one step of a reader apart: of the views only this reader's has changed, and its record
-- has this entry more. These are all acts that the writer has made
pub record AddsEntry (l : Layout) (s t : table.State (Unit {0}) View) (acts : List Made) (e : Reading) : Type 0 where
  pub before : Ruled l s
  pub after : Ruled l t
  pub made : before.log ≡ acts
  pub seat : ℕ
  pub number : ℕ
  pub number' : ℕ
  pub old : List Made
  pub new : List Made
  pub done : List Reading
  pub reads : get_elem? s.views seat ≡ some (reader_view l number old done)
  pub step : t.views ≡ slice_set s.views seat (reader_view l number' new (done ++ e ∷ []))

-- whatever step enters a reading, its front is that of all acts that have been made, and its word the one that its place has in the table
abbrev pub ReadingsAreNewest : Type 0
ReadingsAreNewest =
    (l : Layout) (s t : table.State (Unit {0}) View) (acts : List Made) (e : Reading) → AddsEntry l s t acts e →
    StandsAt e.access e.front (length acts) × IsWordOf l.width l.shape (layout_state l acts).words e.access e.word ×
    ((n : ℕ) → place_read l.width l.shape e.access ≡ Some n → n < word_count l.width l.shape → e.word ≡ slice_index s.words n)

-- There is a table with one reader whose writer has made an act that the reader has not seen. There the rule allows no step, whatever it
-- writes, that enters a reading at the reader's old front, whatever word it enters: not even the right word of that front
abbrev pub StaleReadingsAreRefused : Type 0
StaleReadingsAreRefused =
    (l : Layout) (a : Access) (place : ℕ) (leaves enters : ℕ → ℕ) → IsShape l.shape → IsReading a → place < word_count l.width l.shape →
    table.Allows (Ruled l) 0 1 (reader_view l 0 [] [], []) place leaves (λ found me. me ≡ (reader_view l 0 [] (reading a (enters found) [] ∷ []), [])) → ⊥

-- a running read is such a step. Its caller has some proof that the rule allows a load that returns a reading. Whatever that proof is, the
-- load leads from each state that it meets to one with that reading more, of the word that it found
abbrev pub ReadsAreEntries : Type 0
ReadsAreEntries =
    (l : Layout) (s : table.State (Unit {0}) View) (seat slots place number : ℕ) (old : List Made) (done : List Reading) (held : List (ℕ × Unit {0})) (a : Access) (st : table.Step (Unit {0})) →
    (allows : table.Allows (Ruled l) slots seat (reader_view l number old done, held) place (λ found. found) (ReadsWord a st (reader_view l number old done, held))) →
    (rule : Ruled l s) (fits : length s.homes ≡ slots) (mine : get_elem? s.views seat ≡ some (reader_view l number old done)) (small : slice_index s.words place < 18446744073709551616) →
    let found = slice_index s.words place in
    let next = allows s rule fits mine small in
    AddsEntry l s (table.stepped s place found seat held next.0 next.1) rule.log (reading a found (front_of next.0))

-- whatever step enters a mark leaves the bit of its item set and the bits of all other items as they were. So a step that leaves all
-- words enters one only if the bit is set
abbrev pub MarksAreExact : Type 0
MarksAreExact =
    (l : Layout) (s t : table.State (Unit {0}) View) (acts : List Made) (e : Reading) (i : ℕ) → AddsEntry l s t acts e → e.access ≡ access.Mark i →
    ((k : ℕ) → k < l.shape.items → bit_in l t.words k ≡ (if i == k then 1 else bit_in l s.words k)) × (t.words ≡ s.words → i < l.shape.items → bit_in l s.words i ≡ 1)

-- a running mark is such a step, as a running read is: the step that writes the bit, whatever it leaves of its word, and the load that
-- finds the bit set
pub record MarksAreEntries : Type 0 where
  pub set : (l : Layout) (s : table.State (Unit {0}) View) (seat slots place number : ℕ) (old : List Made) (done : List Reading) (held : List (ℕ × Unit {0})) (i : ℕ) (st : table.Step (Unit {0})) (leaves : ℕ → ℕ) →
      (allows : table.Allows (Ruled l) slots seat (reader_view l number old done, held) place leaves (AddsMark i st (reader_view l number old done, held))) →
      (rule : Ruled l s) (fits : length s.homes ≡ slots) (mine : get_elem? s.views seat ≡ some (reader_view l number old done)) (small : slice_index s.words place < 18446744073709551616) →
      let next = allows s rule fits mine small in
      AddsEntry l s (table.stepped s place (leaves (slice_index s.words place)) seat held next.0 next.1) rule.log (mark_at i old)
  pub seen : (l : Layout) (s : table.State (Unit {0}) View) (seat slots place number : ℕ) (old : List Made) (done : List Reading) (held : List (ℕ × Unit {0})) (i : ℕ) (st : table.Step (Unit {0})) →
      (allows : table.Allows (Ruled l) slots seat (reader_view l number old done, held) place (λ found. found) (AddsMarkIfSet i st (reader_view l number old done, held))) →
      (rule : Ruled l s) (fits : length s.homes ≡ slots) (mine : get_elem? s.views seat ≡ some (reader_view l number old done)) (small : slice_index s.words place < 18446744073709551616) →
      bit_at (slice_index s.words place) (recency_bit i) ≡ 1 →
      let next = allows s rule fits mine small in
      AddsEntry l s (table.stepped s place (slice_index s.words place) seat held next.0 next.1) rule.log (mark_at i old)

-- two states of a table under its rule, one step of the writer apart: of the views only the writer's has changed, and its record has
-- one act of the hand more, at this item, with this bit
pub record AddsTurn (l : Layout) (s t : table.State (Unit {0}) View) (acts : List Made) (i bit : ℕ) : Type 0 where
  pub before : Ruled l s
  pub after : Ruled l t
  pub seat : ℕ
  pub tally : Tally
  pub note : Note
  pub knows : get_elem? s.views seat ≡ some (writer_view l acts tally)
  pub step : t.views ≡ slice_set s.views seat (writer_view l (acts ++ with_bit (Hand i) bit ∷ []) (with_note tally note))

-- whatever step turns the hand leaves the bits of all other items as they were. Of its own item, it records a clear bit as 0. If it
-- leaves the bit clear, it records the bit that was there
pub record HandsAreExact : Type 0 where
  pub others : (l : Layout) (s t : table.State (Unit {0}) View) (acts : List Made) (i bit k : ℕ) → AddsTurn l s t acts i bit → k < l.shape.items → i ≢ k →
      bit_in l t.words k ≡ bit_in l s.words k
  pub clear : (l : Layout) (s t : table.State (Unit {0}) View) (acts : List Made) (i bit : ℕ) → AddsTurn l s t acts i bit → i < l.shape.items → bit_in l s.words i ≡ 0 →
      (bit ≡ 0) × (bit_in l t.words i ≡ 0)
  pub cleared : (l : Layout) (s t : table.State (Unit {0}) View) (acts : List Made) (i bit : ℕ) → AddsTurn l s t acts i bit → i < l.shape.items → bit_in l t.words i ≡ 0 →
      bit ≡ bit_in l s.words i

-- a running turn of the hand is such a step, and the bit that it records is the one that the item's recency word had at that instant:
-- the `fetch_and`, after which the bit is clear, and the load that finds the bit clear
pub record HandsAreEntries : Type 0 where
  pub turned : (l : Layout) (s : table.State (Unit {0}) View) (seat slots : ℕ) (acts : List Made) (tally : Tally) (held : List (ℕ × Unit {0})) (i keeps : ℕ) →
      let place = recency_place l.width l.shape i in
      (allows : table.Allows (Ruled l) slots seat (writer_view l acts tally, held) place (λ found. bit_and found keeps) (ClearsBit (Hand i) (table.step slots place keeps 0 none) (writer_view l acts tally, held))) →
      (rule : Ruled l s) (fits : length s.homes ≡ slots) (mine : get_elem? s.views seat ≡ some (writer_view l acts tally)) (small : slice_index s.words place < 18446744073709551616) →
      let next = allows s rule fits mine small in
      let t = table.stepped s place (bit_and (slice_index s.words place) keeps) seat held next.0 next.1 in
      AddsTurn l s t acts i (bit_in l s.words i) × (i < l.shape.items → bit_in l t.words i ≡ 0)
  pub seen : (l : Layout) (s : table.State (Unit {0}) View) (seat slots : ℕ) (acts : List Made) (tally : Tally) (held : List (ℕ × Unit {0})) (i : ℕ) (st : table.Step (Unit {0})) →
      let place = recency_place l.width l.shape i in
      (allows : table.Allows (Ruled l) slots seat (writer_view l acts tally, held) place (λ found. found) (AddsActIfClear (Hand i) st (writer_view l acts tally, held))) →
      (rule : Ruled l s) (fits : length s.homes ≡ slots) (mine : get_elem? s.views seat ≡ some (writer_view l acts tally)) (small : slice_index s.words place < 18446744073709551616) →
      bit_in l s.words i ≡ 0 →
      let next = allows s rule fits mine small in
      AddsTurn l s (table.stepped s place (slice_index s.words place) seat held next.0 next.1) acts i (bit_in l s.words i)

-- a lookup that a reader made, among all acts and its whole record: its reply is true at some number of changes, no fewer than were made
-- before the lookup's first step, and no more than were made before its last
abbrev pub LookupsStandInOrder : ℕ → Type 0
LookupsStandInOrder V =
    (policy : Policy) (sh : Shape) (acts : List Made) (number : ℕ) (notes : List Note) (before rs after : List Reading) (k tries : ℕ) (reply : Reply V) → IsShape sh → IsLawful V sh acts → k < 2 ^ 64 →
    length notes ≡ length acts → IsRecord (layout_with V policy sh) acts (before ++ rs ++ after) → IsExact number notes (before ++ rs ++ after) → IsLookup V sh k tries rs reply →
    IsTrueAnswer (state_of V sh acts).history k reply
    × IsBetween (length (front V sh acts (made_by number (length before) notes)).history) (length (front V sh acts (made_by number (length before + length rs - 1) notes)).history) reply

-- a lookup on a table that threads share: the step that entered its first reading, and the step that entered its last entry, with
-- the acts that had been made at each. The record had nothing of the lookup before the first, and has it whole after the last
pub record IsLookedUp (V : ℕ) (sh : Shape) (k tries : ℕ) (acts acts' : List Made) (reply : Reply V) : Type 0 where
  pub rs : List Reading
  pub looked : IsLookup V sh k tries rs reply
  pub s : table.State (Unit {0}) View
  pub t : table.State (Unit {0}) View
  pub first : Reading
  pub more : List Reading
  pub from : rs ≡ first ∷ more
  pub policy : Policy
  pub begins : AddsEntry (layout_with V policy sh) s t acts first
  pub s' : table.State (Unit {0}) View
  pub t' : table.State (Unit {0}) View
  pub last : Reading
  pub ends : AddsEntry (layout_with V policy sh) s' t' acts' last
  pub whole : ends.done ++ last ∷ [] ≡ begins.done ++ rs
  pub later : IsFrontOf acts acts'

-- two meetings of a reader with the writer speak of one order: a reading comes after the same acts in both
abbrev pub MeetingsAgree : Type 0
MeetingsAgree =
    (acts later : List Made) (notes more : List Note) (number : ℕ) (done rest rest' : List Reading) (r : Reading) →
    InOneOrder acts notes number (done ++ r ∷ rest) → InOneOrder later (notes ++ more) number (done ++ r ∷ rest') → IsReading r.access →
    made_by number (length done) notes ≡ made_by number (length done) (notes ++ more)

-- take an act that was made between two meetings of a reader with the writer. If the reader made no step between them, the act's note has
-- the number of entries of that reader, up to marks that it made after its last reading
abbrev pub IdleActsAreNoted : Type 0
IdleActsAreNoted =
    (acts later : List Made) (notes more : List Note) (number : ℕ) (done marks : List Reading) (last : Reading) (k : ℕ) (note : Note) →
    InOneOrder acts notes number (done ++ last ∷ marks) → InOneOrder later (notes ++ more) number (done ++ last ∷ marks) → IsReading last.access → get_elem? more k ≡ some note →
    (length (done ++ last ∷ []) ≤ steps_by number note) × (steps_by number note ≤ length (done ++ last ∷ marks))

-- whatever threads do meanwhile, its reply is what the map held after some number of changes: no fewer than had been made at the instant of
-- its first step, and no more than at that of its last
abbrev pub LookupsAreInTime : ℕ → Type 0
LookupsAreInTime V =
    (sh : Shape) (k tries : ℕ) (acts acts' : List Made) (reply : Reply V) → IsShape sh → k < 2 ^ 64 → IsLookedUp V sh k tries acts acts' reply →
    IsTrueAnswer (state_of V sh acts').history k reply × IsBetween (length (state_of V sh acts).history) (length (state_of V sh acts').history) reply
