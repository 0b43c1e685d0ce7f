use Rattle.std.proofs.Common.{◌≡◌, ℕ, ◌<◌, ◌≤◌, length, true, false, get_or}
use Rattle.mc_search.specs.Inside.Search.{bucket_at}
use Rattle.mc_search.proofs.queue.clean.Given as goal

abbrev pub invariant-marks : goal.invariant-marks
invariant-marks l = record {
  size : length l.seen.items ≡ length l.initial.seen.items;
  left : (b : ℕ) → get_or l.seen.items b false ≡ true → (k : ℕ) × (l.entry-index ≤ k) × (k < length l.entry-items) × (bucket_at l.entry-items k ≡ b);
}
