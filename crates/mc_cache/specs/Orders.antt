-- What is known of all lookups of a reader when it meets the writer.
use Rattle.std.specs.Prelude.{ℕ, ◌≡◌, ◌+◌, ◌-◌, ◌^◌, ◌<◌, List, ◌++◌, length}
use Rattle.mc_words.specs.History.{IsTrueAnswer}
use Rattle.mc_words.specs.declared.history.Reply.{Reply}
use Rattle.mc_words.specs.declared.shape.Shape.{Shape}
use Rattle.mc_theory.specs.Lists.{front, state_of}
use Rattle.mc_theory.specs.Lookups.{IsLookup}
use Rattle.mc_theory.specs.Plain.{IsBetween}
use Rattle.mc_theory.specs.Readings.{Reading}
use Rattle.mc_shared.specs.ExactFronts.{made_by, InOneOrder}
use Rattle.mc_shared.specs.Records.{WriterRecord}

-- how many changes of the map had been made when the reader with this number made its step n, counted from 0, according to the writer's
-- notes
abbrev pub changes_by : (V : ℕ) → Shape → WriterRecord → ℕ → ℕ → ℕ
changes_by V sh writer number n = length (front V sh writer.acts (made_by number n writer.notes)).history

-- the writer's notes order the steps of the reader among the acts of the writer. Each lookup that the reader has made is true in this
-- order: its reply is what the map held after some number of changes. That is no fewer than were made before its first step, and no more
-- than when its last was made
pub record HasAnsweredInOrder (V : ℕ) (sh : Shape) (writer : WriterRecord) (number : ℕ) (done : List Reading) : Type 0 where
  pub order : InOneOrder writer.acts writer.notes number done
  pub lookups : (before rs after : List Reading) (k : ℕ) (reply : Reply V) → k < 2 ^ 64 → done ≡ before ++ rs ++ after → IsLookup V sh k sh.tries rs reply →
      IsTrueAnswer (state_of V sh writer.acts).history k reply
      × IsBetween (changes_by V sh writer number (length before)) (changes_by V sh writer number (length before + length rs - 1)) reply
