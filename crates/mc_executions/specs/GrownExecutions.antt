-- Which executions there are: every order of steps that keep the rule.
use Rattle.std.specs.Prelude.{◌≡◌, ℕ, zero, suc, ◌^◌, ◌<◌, ◌≤◌, List, [], ◌∷◌, ◌++◌, slice_index, replicate, Some}
use mathlib.Core.Option.{some}
use lib.ListN.{get_elem?}
use Rattle.atomic_table.specs.Table as table
use Rattle.mc_words.specs.Places.{all_words, recency_place, word_count}
use Rattle.mc_words.specs.Shapes.{IsShape}
use Rattle.mc_theory.specs.Lists.{Made}
use Rattle.mc_theory.specs.Readings.{Reading}
use Rattle.mc_theory.specs.Acts.{IsAllowed}
use Rattle.mc_theory.specs.Writes.{place_read, write_of}
use Rattle.mc_theory.specs.declared.access.Access.{Access}
use Rattle.mc_shared.specs.TableRule.{Ruled, bit_in}
use Rattle.mc_shared.specs.Views.{Tally, layout_state, tally_for, with_bit, writer_view, reader_view, new_writer_view}
use Rattle.mc_theory.specs.declared.act.Act.{Act}
use Rattle.mc_theory.specs.declared.act.Act.TheVariants.{Hand, Mark}
use Rattle.mc_shared.specs.declared.layout.Layout.{Layout}
use Rattle.mc_executions.specs.Executions.{TableState, IsStep, IsExecution, HasRecord, HasActs}

-- the states up to n, and this one from there on
abbrev pub grown : (ℕ → TableState) → ℕ → TableState → ℕ → TableState
grown states zero t zero = states zero
grown states zero t (suc k) = t
grown states (suc n) t zero = states zero
grown states (suc n) t (suc k) = grown (λ m. states (suc m)) n t k

-- a new table is an execution, and after any state of one each step that keeps the rule may come next. So each finite run of steps from the
-- opening on begins an execution
pub record ExecutionsGrow (l : Layout) : Type 0 where
  pub begin : (words : List ℕ) → words ≡ replicate (all_words l.width l.shape) 0 → IsExecution l (λ n. table.opening words [] (new_writer_view l))
  pub grow : (states : ℕ → TableState) (n : ℕ) (t : TableState) → IsExecution l states → IsStep (states n) t → Ruled l t →
      IsExecution l (grown states n t) × ((k : ℕ) → k ≤ n → grown states n t k ≡ states k) × ((k : ℕ) → n < k → grown states n t k ≡ t)

abbrev pub AllExecutionsGrow : Type 0
AllExecutionsGrow = (l : Layout) → ExecutionsGrow l

-- in particular a reader may be seated on a new table, and may read any word next
pub record ReadersMayCome (l : Layout) : Type 0 where
  pub seated : (states : ℕ → TableState) (n seat readers : ℕ) → IsExecution l states → get_elem? (states n).views seat ≡ some (writer_view l [] (tally_for readers)) →
      (states' : ℕ → TableState) × IsExecution l states' × ((k : ℕ) → k ≤ n → states' k ≡ states k) × HasRecord readers (states' (suc n)) []
  pub read : (states : ℕ → TableState) (n seat number place : ℕ) (front : List Made) (done : List Reading) (a : Access) → IsExecution l states → get_elem? (states n).views seat ≡ some (reader_view l number front done) →
      place_read l.width l.shape a ≡ Some place → place < word_count l.width l.shape → slice_index (states n).words place < 2 ^ 64 →
      (states' : ℕ → TableState) × (e : Reading) × IsExecution l states' × ((k : ℕ) → k ≤ n → states' k ≡ states k) ×
      HasRecord number (states' (suc n)) (done ++ e ∷ []) × (e.access ≡ a) × (e.word ≡ slice_index (states n).words place)

abbrev pub AllReadersMayCome : Type 0
AllReadersMayCome = (l : Layout) → ReadersMayCome l

-- The writer's record has one act more after the next step, and what was before stays
abbrev pub ActsNext : Layout → (ℕ → TableState) → ℕ → List Made → Made → Type 0
ActsNext l states n acts made = (states' : ℕ → TableState) × IsExecution l states' × ((k : ℕ) → k ≤ n → states' k ≡ states k) × HasActs (states' (suc n)) (acts ++ made ∷ [])

-- in particular the writer may make any act next that is allowed in its state: one that writes a word before the recency words, a mark, or a
-- reading of the hand, which tells the bit that is there
pub record WritersMayAct (l : Layout) : Type 0 where
  pub acts : (states : ℕ → TableState) (n seat place x : ℕ) (acts : List Made) (tally : Tally) (a : Act) → IsExecution l states → get_elem? (states n).views seat ≡ some (writer_view l acts tally) →
      IsShape l.shape → IsAllowed l.shape (layout_state l acts) a → (layout_state l acts).version_steps ≤ 2 ^ 62 →
      write_of l.width l.shape (layout_state l acts).words (layout_state l acts).phase a ≡ Some (place, x) → slice_index (states n).words place < 2 ^ 64 → ActsNext l states n acts (with_bit a 0)
  pub marks : (states : ℕ → TableState) (n seat i : ℕ) (acts : List Made) (tally : Tally) → IsExecution l states → get_elem? (states n).views seat ≡ some (writer_view l acts tally) →
      IsShape l.shape → IsAllowed l.shape (layout_state l acts) (Mark i) → (layout_state l acts).version_steps ≤ 2 ^ 62 →
      slice_index (states n).words (recency_place l.width l.shape i) < 2 ^ 64 → ActsNext l states n acts (with_bit (Mark i) 0)
  pub hands : (states : ℕ → TableState) (n seat i : ℕ) (acts : List Made) (tally : Tally) → IsExecution l states → get_elem? (states n).views seat ≡ some (writer_view l acts tally) →
      IsShape l.shape → IsAllowed l.shape (layout_state l acts) (Hand i) → (layout_state l acts).version_steps ≤ 2 ^ 62 →
      slice_index (states n).words (recency_place l.width l.shape i) < 2 ^ 64 → ActsNext l states n acts (with_bit (Hand i) (bit_in l (states n).words i))

abbrev pub AllWritersMayAct : Type 0
AllWritersMayAct = (l : Layout) → WritersMayAct l
