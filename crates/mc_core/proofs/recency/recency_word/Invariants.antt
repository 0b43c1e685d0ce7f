use Rattle.std.proofs.Common.{ℕ, ◌+◌, ◌*◌}
use Rattle.std.specs.Prelude.{slice_index, min}
use Rattle.mc_core.proofs.PackedBits.{HasFirst}
use Rattle.mc_core.proofs.recency.recency_word.Given as goal

abbrev pub invariant-loop-k : goal.invariant-loop-k
invariant-loop-k l = record {
  has : HasFirst (λ (j : ℕ). min 1 (slice_index l.bits (64 * l.m + j))) l.k l.word;
}
