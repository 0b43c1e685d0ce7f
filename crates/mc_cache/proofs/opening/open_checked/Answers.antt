use Rattle.mc_cache.proofs.NewWriters.{keeps_new, rested_new}
use Rattle.mc_cache.proofs.opening.open_checked.Goals as goal

pub invariant_of-writer : goal.invariant_of-writer
invariant_of-writer g c = (
  rested_new g.row.V c.args.checked.now c.in_ok-books.books c.in_ok-cells.seat c.in_ok-cells.cells c.in_ok-cells.ensures.writer c.in_ok-cells.ensures.cells c.in_ok-books.ensures.shape
      (c.in_ok-books.ensures.books g.row.V c.requires.width),
  keeps_new g.row.V c.in_ok-cells.seat c.in_ok-cells.cells c.in_ok-cells.ensures.writer,
)
