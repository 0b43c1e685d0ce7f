use Rattle.std.proofs.Common.{ℕ, ◌≡◌, ◌+◌, ◌<◌, slice_index_or}
use Rattle.mc_load.specs.Dates.{AreMoments}
use Rattle.mc_load.specs.declared.dated.Dated.{Dated}
use Rattle.mc_load.proofs.merging.misplaced.Given as goal

abbrev pub invariant-loop-n : goal.invariant-loop-n
invariant-loop-n g l = record {
  last : l.wrong ≡ 0 → l.moment ≡ l.n;
  right : l.wrong ≡ 0 → (k : ℕ) (d : Dated g.row.V) → k < l.n → (slice_index_or l.fn.all k d).at ≡ k + 1;
  none : AreMoments l.fn.all → (l.wrong ≡ 0) × (l.moment ≡ l.n);
}
