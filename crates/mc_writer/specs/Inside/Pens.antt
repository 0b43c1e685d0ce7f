-- What is due to a pen, and what it has made.
use Rattle.std.specs.Prelude.{◌≡◌, ℕ, List, ◌++◌}
use Rattle.mc_theory.specs.Lists.{Made, state_of}
use Rattle.mc_theory.specs.States.{State}
use Rattle.mc_theory.specs.declared.act.Act.{Act}
use Rattle.mc_plan.specs.Due.{AreDue}
use Rattle.mc_plan.specs.Making.{as_made}
use Rattle.mc_shared.specs.Records.{NotesGrow}
use Rattle.mc_writer.specs.declared.pen.Pen.{Pen}

-- the state of the table after the acts of the pen's seat
abbrev pub state_at : (V : ℕ) → Pen V → State V
state_at V pen = state_of V pen.cells.now.layout.shape pen.seat.now.acts

-- of the acts that are due, these are the next
pub record IsDue (V : ℕ) (next : List Act) (pen : Pen V) : Type 0 where
  pub all : List Made
  pub later : List Act
  pub due : AreDue V pen.cells.now.layout.shape all pen.seat.now.acts (next ++ later)

-- it is the same pen
pub record IsSamePen (V : ℕ) (before after : Pen V) : Type 0 where
  pub cells : after.cells ≡ before.cells
  pub seat : after.seat.ghost_name ≡ before.seat.ghost_name

-- the pen has made these acts, and no others
pub record HasMade (V : ℕ) (made : List Act) (before after : Pen V) : Type 0 where
  pub same : IsSamePen V before after
  pub of : after.seat.now.of ≡ before.seat.now.of
  pub acts : after.seat.now.acts ≡ before.seat.now.acts ++ as_made made
  pub notes : NotesGrow before.seat.now.notes after.seat.now.notes

-- the pen has made all of these acts but the last ones
pub record HasMadeUpTo (V : ℕ) (plan rest : List Act) (before after : Pen V) : Type 0 where
  pub done : List Act
  pub parts : plan ≡ done ++ rest
  pub made : HasMade V done before after
