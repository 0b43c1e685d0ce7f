use Rattle.std.proofs.Common.{ℕ, ◌≡◌, ◌<◌, slice_index_or}
use Rattle.mc_load.specs.Inside.Handles.{place_of}
use Rattle.mc_load.specs.Inside.Lasts.{AreLasts, HasLast}
use Rattle.mc_load.specs.declared.dated.Dated.{Dated}
use Rattle.mc_load.proofs.lasts.note_lasts.Given as goal

abbrev pub invariant-loop-n : goal.invariant-loop-n
invariant-loop-n g l = record {
  place : place_of l.handle ≡ place_of l.fn.handle;
  lasts : AreLasts g.row.V (place_of l.fn.handle) l.fn.mix l.fn.shards l.fn.lasts → AreLasts g.row.V (place_of l.fn.handle) l.fn.mix l.fn.shards l.lasts;
  looked : AreLasts g.row.V (place_of l.fn.handle) l.fn.mix l.fn.shards l.fn.lasts → (k : ℕ) (d : Dated g.row.V) → k < l.n → HasLast g.row.V (place_of l.fn.handle) l.lasts (slice_index_or l.fn.journal k d);
}
