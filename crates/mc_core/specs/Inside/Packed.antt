-- What only private contracts say beside `Packed`.
use Rattle.std.specs.Prelude.{ℕ, ◌≡◌, ◌+◌, ◌*◌, ◌^◌, ◌<◌, ◌≤◌, List, slice_index, min}
use Rattle.std.specs.Int.{bit_at}

-- the word has 64 of the bits, the first of them at 64 times its number
pub record IsPacked (bits : List ℕ) (m word : ℕ) : Type 0 where
  pub small : word < 2 ^ 64
  pub each : (k : ℕ) → k < 64 → bit_at word k ≡ min 1 (slice_index bits (64 * m + k))
  pub past : (k : ℕ) → 64 ≤ k → bit_at word k ≡ 0
