-- The rule of a table that threads share.
use Rattle.std.specs.Prelude.{◌≡◌, ℕ, ◌<◌, ◌≤◌, List, length, slice_index}
use Rattle.std.specs.Int.{bit_at}
use mathlib.Core.Option.{some}
use lib.ListN.{get_elem?}
use Rattle.atomic_table.specs.Table as table
use Rattle.mc_words.specs.Places.{word_count, all_words, recency_place}
use Rattle.mc_words.specs.Recency.{recency_bit}
use Rattle.mc_theory.specs.Lists.{Made}
use Rattle.mc_theory.specs.Readings.{Reading, AreRead, RiseTo}
use Rattle.mc_shared.specs.RecencyTrace.{trace_of, marks_in, total, Coherent}
use Rattle.mc_shared.specs.ExactFronts.{IsExact}
use Rattle.mc_shared.specs.Views.{Tally, Role, Spent, Writes, Reads, Both, View, IsWriters, seated_in, done_of, AreLawful, layout_state, IsFrontOf}
use Rattle.mc_shared.specs.declared.layout.Layout.{Layout}

-- the word at a place after these acts
abbrev pub word_after : Layout → List Made → ℕ → ℕ
word_after l acts n = slice_index (layout_state l acts).words n

-- each reading has the word of its place at its front, and the fronts do not fall, up to the last one
pub record IsRecord (l : Layout) (front : List Made) (done : List Reading) : Type 0 where
  pub read : AreRead l.width l.shape front done
  pub rise : RiseTo 0 done (length front)

-- what the rule says of the role of a seat, if these are all acts with their tally, and the writer's seat is the one at `at`
abbrev pub FitsRole : Layout → Layout → List Made → Tally → ℕ → ℕ → Role → Type 0
FitsRole l own log all at seat Spent = Unit {0}
FitsRole l own log all at seat (Writes acts tally) = (own ≡ l) × (seat ≡ at) × (acts ≡ log) × (tally ≡ all)
FitsRole l own log all at seat (Reads number front done) = (own ≡ l) × IsFrontOf front log × IsRecord l front done × IsExact number all.notes done
FitsRole l own log all at seat (Both acts tally number front done) = (own ≡ l) × (seat ≡ at) × (acts ≡ log) × (tally ≡ all) × IsFrontOf front log × IsRecord l front done × IsExact number all.notes done

abbrev pub Fits : Layout → List Made → Tally → ℕ → ℕ → View → Type 0
Fits l log all at seat v = FitsRole l v.layout log all at seat v.role

abbrev pub AllFit : Layout → List Made → Tally → ℕ → List View → Type 0
AllFit l log all at views = (seat : ℕ) (v : View) → get_elem? views seat ≡ some v → Fits l log all at seat v

-- the writer's seat is the one at `at`
abbrev pub HasWriter : ℕ → List View → Type 0
HasWriter at views = (v : View) × (get_elem? views at ≡ some v) × IsWriters v.role

-- on how many seats this reader is: on none, or on one
abbrev pub seats_of : ℕ → List View → ℕ
seats_of a views = total (λ (v : View). seated_in a v.role) views

-- how often the item was marked on the seats with these views
abbrev pub marks_of : ℕ → List View → ℕ
marks_of i views = total (λ (v : View). marks_in i (done_of v)) views

-- the recency bit of an item in these words
abbrev pub bit_in : Layout → List ℕ → ℕ → ℕ
bit_in l words i = bit_at (slice_index words (recency_place l.width l.shape i)) (recency_bit i)

-- The rule of a table, between any two steps: there is a lawful list of acts, and the writer's seat knows it
pub record Ruled (l : Layout) (s : table.State (Unit {0}) View) : Type 0 where
  -- the acts that were made, and for each what was so then
  pub log : List Made
  pub tally : Tally
  pub paired : length tally.notes ≡ length log
  -- the number of the writer's seat, which no step takes away
  pub at : ℕ
  pub writer : HasWriter at s.views
  pub lawful : AreLawful l log
  pub wide : length s.words ≡ all_words l.width l.shape
  -- the words before the recency words are those after all acts
  pub words : (n : ℕ) → n < word_count l.width l.shape → slice_index s.words n ≡ word_after l log n
  -- each seat's view is one of these acts: the writer's has them all, each reader's is the record of a front of them, and each
  -- reading was made at the front of all acts that had been made by then
  pub views : AllFit l log tally at s.views
  -- each reader is on just one seat, and readers have the numbers below that of readers
  pub single : (a : ℕ) → a < tally.readers → seats_of a s.views ≡ 1
  pub unseated : (a : ℕ) → tally.readers ≤ a → seats_of a s.views ≡ 0
  -- a recency bit is set just if its item was marked since the hand was there, and the hand reported each bit as it was
  pub bits : (i : ℕ) → i < l.shape.items → Coherent (trace_of i log tally.notes) (marks_of i s.views) (bit_in l s.words i)
  -- bits past the last item are 0
  pub past : (i : ℕ) → l.shape.items ≤ i → bit_in l s.words i ≡ 0
