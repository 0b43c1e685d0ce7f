-- Workers that have run beside each other.
use Rattle.std.specs.Prelude.{ℕ, ◌≡◌, ◌<◌, List, length, slice_index_or}

-- each has ended
abbrev pub HaveRun : {K : Type 0} → (K → K → Type 0) → List K → List K → Type 0
HaveRun {K} Ended before after = (length after ≡ length before) × ((n : ℕ) (d : K) → n < length before → Ended (slice_index_or before n d) (slice_index_or after n d))
