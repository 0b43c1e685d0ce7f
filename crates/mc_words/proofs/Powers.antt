-- The powers of two are the numbers that `IsPower` says.
use Rattle.std.proofs.Common.{ℕ, ◌^◌, ◌<◌, arith, sym, ap, inl, inr}
use Rattle.std.proofs.lemmas.Nat.{pow_pos}
use Rattle.std.proofs.lemmas.Nat.Bits.{bit_at-trailing_zeros, bit_at-pow_other}
use Rattle.std.proofs.lemmas.Bool.{cases_eq}
use Rattle.std.proofs.Math.Pow.{pow-lt}
use Rattle.std.specs.Int.{w32, trailing_zeros}
use Rattle.mc_words.specs.Shapes.{IsPower}

-- 2 to any k below 32 is one
pub is_power-pow : (k : ℕ) → k < 32 → IsPower (2 ^ k)
is_power-pow k l =
    let zeros = trailing_zeros w32 (2 ^ k) in
    let low = bit_at-trailing_zeros w32 (2 ^ k) (pow_pos k) (pow-lt l) in
    elim (cases_eq zeros k) [
      | inl same ↦ ap (λ (x : ℕ). 2 ^ x) (sym same)
      | inr other ↦ let zero = bit_at-pow_other k zeros other in absurd (omega (arith, low.1, zero))
    ]
