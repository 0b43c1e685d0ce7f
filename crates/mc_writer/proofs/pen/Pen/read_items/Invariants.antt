use Rattle.std.proofs.Common.{ℕ, ◌≡◌, ◌+◌, ◌-◌, List, None}
use Rattle.mc_search.specs.Sweeps.{Swept}
use Rattle.mc_writer.specs.Inside.Pens.{IsSamePen}
use Rattle.mc_writer.specs.Inside.Rounds.{CanRead, HasReadOn}
use Rattle.mc_writer.specs.declared.pen.Pen.{Pen}
use Rattle.mc_writer.proofs.pen.Pen.read_items.Given as goal

abbrev pub invariant-loop-i : goal.invariant-loop-i
invariant-loop-i g l = record {
  same : IsSamePen g.row.V l.fn.self l.self;
  shape : l.books.checked ≡ l.fn.books.checked;
  read : (before : Pen g.row.V) (rs : List Swept) (more : ℕ) → CanRead g.row.V l.fn.books before l.fn.self rs (more + (l.fn.to - l.fn.from)) → HasReadOn g.row.V l.books before l.self rs l.fn.from l.i (more + (l.fn.to - l.i)) None;
}
