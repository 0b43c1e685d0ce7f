use Rattle.std.proofs.Common.{ℕ, ◌≡◌, ◌+◌, ◌<◌, length, slice_index_or}
use Rattle.mc_load.specs.declared.turn_thread.TurnThread.{TurnThread}
use Rattle.mc_load.specs.declared.turns.Turns.{Turns}
use Rattle.mc_load.proofs.turns_summing.turns_of.Given as goal

abbrev pub invariant-loop-n : goal.invariant-loop-n
invariant-loop-n g l = record {
  many : length l.turns ≡ 8;
  each : (k : ℕ) (d : Turns) → k < l.n → (slice_index_or l.turns k d).held + (slice_index_or l.turns k d).answered ≡ l.fn.load.writes;
  those : (k : ℕ) (d : Turns) → k < l.n → (e : TurnThread g.row.V) → slice_index_or l.turns k d ≡ (slice_index_or l.fn.turn_threads k e).turns;
}
