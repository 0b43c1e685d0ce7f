-- What a clause sees of a table and of its seats.
use Rattle.std.specs.Prelude.{ℕ, zero, suc, ◌≡◌, List, [], ◌∷◌, ◌++◌}
use Rattle.atomic_table.specs.Seated.{TableId}
use Rattle.mc_theory.specs.Lists.{Made}
use Rattle.mc_theory.specs.Readings.{Reading}
use Rattle.mc_theory.specs.declared.act.Act.{Act}
use Rattle.mc_shared.specs.Views.{Note, with_bit}
use Rattle.mc_shared.specs.declared.layout.Layout.{Layout}

-- which table it is
pub record Opening : Type 0 where
  pub table : TableId
  pub layout : Layout

-- the acts that the writer of a table made, and beside each what had been done when it was made
pub record WriterRecord : Type 0 where
  pub of : Opening
  pub acts : List Made
  pub notes : List Note

-- a reader's number, by which notes count its entries, the last front that it saw, and what it read and marked
pub record ReaderRecord : Type 0 where
  pub of : Opening
  pub number : ℕ
  pub front : List Made
  pub done : List Reading

abbrev pub writer_record : Opening → List Made → List Note → WriterRecord
writer_record o acts notes = record { of = o; acts = acts; notes = notes }

abbrev pub reader_record : Opening → ℕ → List Made → List Reading → ReaderRecord
reader_record o number front done = record { of = o; number = number; front = front; done = done }

-- a reader that has seen and done nothing
pub record IsNewReader (o : Opening) (r : ReaderRecord) : Type 0 where
  pub of : r.of ≡ o
  pub front : r.front ≡ []
  pub done : r.done ≡ []

-- the readers of a new table, with the numbers from 0 on
abbrev pub new_readers : Opening → ℕ → List ReaderRecord
new_readers o zero = []
new_readers o (suc n) = new_readers o n ++ reader_record o n [] [] ∷ []

-- notes are added at the end alone: none is ever changed
pub record NotesGrow (old new : List Note) : Type 0 where
  pub more : List Note
  pub is : new ≡ old ++ more

-- one act was made, with the bit that it read, and one note beside it
pub record HasActed (before after : WriterRecord) (act : Act) (bit : ℕ) : Type 0 where
  pub of : after.of ≡ before.of
  pub acts : after.acts ≡ before.acts ++ with_bit act bit ∷ []
  pub note : Note
  pub notes : after.notes ≡ before.notes ++ note ∷ []
