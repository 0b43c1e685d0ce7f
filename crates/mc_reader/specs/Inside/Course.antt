-- How far a reader is in a lookup.
use Rattle.std.specs.Prelude.{ℕ, ◌≡◌, ◌+◌, ◌*◌, ◌≤◌, ◌↔◌, List, ◌++◌, length, Option, Some, None}
use Rattle.mc_words.specs.Places.{payload}
use Rattle.mc_words.specs.declared.history.Reply.{Reply}
use Rattle.mc_words.specs.declared.shape.Shape.{Shape}
use Rattle.mc_theory.specs.Lookups.{IsLookup}
use Rattle.mc_theory.specs.Readings.{Reading, RiseTo}
use Rattle.mc_lookup.specs.Machine.{shape_for, IsRemainder, steps_left}
use Rattle.mc_lookup.specs.declared.lookup.Lookup.{Lookup}
use Rattle.mc_lookup.specs.declared.stage.Stage.{Stage}
use Rattle.mc_lookup.specs.declared.stage.Stage.TheVariants.{Moment, Value}
use Rattle.mc_shared.specs.Records.{ReaderRecord}
use Rattle.mc_reader.specs.Records.{EndsAt}
use Rattle.mc_shared.specs.Views.{IsFrontOf}

-- since the record was `before` these readings were added, and with those that are left of the lookup they make one of the key
pub record IsOnCourse (V : ℕ) (sh : Shape) (k : ℕ) (before after : ReaderRecord) (lookup : Lookup V) : Type 0 where
  pub rs : List Reading
  pub of : after.of ≡ before.of
  pub number : after.number ≡ before.number
  pub done : after.done ≡ before.done ++ rs
  pub begins : IsFrontOf before.front after.front
  pub rise : RiseTo (length before.front) rs (length after.front)
  pub last : EndsAt (length before.front) rs (length after.front)
  pub shape : shape_for lookup ≡ sh
  pub left : (rest : List Reading) (reply : Reply V) → IsRemainder lookup rest reply ↔ IsLookup V sh k sh.tries (rs ++ rest) reply
  pub steps : length rs + steps_left lookup ≤ sh.tries * (19 + payload V) + 1

-- from one record and lookup to others: what was on the course of a lookup still is
pub record Leads (V : ℕ) (sh : Shape) (old : ReaderRecord) (lookup : Lookup V) (new : ReaderRecord) (next : Lookup V) : Type 0 where
  pub of : new.of ≡ old.of
  pub number : new.number ≡ old.number
  pub shape : next.checked ≡ lookup.checked
  pub key : next.key ≡ lookup.key
  pub way : (k : ℕ) (before : ReaderRecord) → IsOnCourse V sh k before old lookup → IsOnCourse V sh k before new next
  pub most : steps_left next ≤ steps_left lookup

-- the stage after the slots were read: at a hit the value comes next, and else the moment
abbrev pub stage_after_scan : Option ℕ → Stage
stage_after_scan None = Moment None
stage_after_scan (Some i) = Value i 0
