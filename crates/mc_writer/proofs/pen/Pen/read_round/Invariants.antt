use Rattle.std.proofs.Common.{ℕ, ◌≡◌, List}
use Rattle.mc_theory.specs.States.{State}
use Rattle.mc_search.specs.Sweeps.{Swept}
use Rattle.mc_search.specs.declared.room.Room.{Room}
use Rattle.mc_plan.specs.Books.{Waits}
use Rattle.mc_writer.specs.Inside.Pens.{IsSamePen}
use Rattle.mc_writer.specs.Inside.Turns.{HasPicked}
use Rattle.mc_writer.proofs.pen.Pen.read_round.Given as goal

abbrev pub invariant-loop-i : goal.invariant-loop-i
invariant-loop-i g l = record {
  same : IsSamePen g.row.V l.fn.self l.self;
  shape : l.books.checked ≡ l.fn.books.checked;
  waits : (k : ℕ) (v : List ℕ) (s : State g.row.V) (room : Room) → Waits g.row.V l.fn.books k v s room → Waits g.row.V l.books k v s room;
  most : l.pick.items ≡ l.fn.pick.items;
  picked : (rs : List Swept) × HasPicked g.row.V l.books l.pick l.fn.self l.self rs;
}

abbrev pub decreases-loop-i : goal.decreases-loop-i
decreases-loop-i g l = l.pick.left
