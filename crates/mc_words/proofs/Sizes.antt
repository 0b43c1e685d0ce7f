-- The shape that is chosen for a number of items is one.
use Rattle.std.proofs.Common.{ℕ, ◌≡◌, ◌+◌, ◌*◌, ◌^◌, ◌<◌, ◌≤◌, min, arith, lit<, inl, inr, sym, subst, ◌∙◌}
use Rattle.std.proofs.Math.Nat.{pow-le-pow_right}
use Rattle.std.proofs.lemmas.Bool.{cases_lt}
use Rattle.std.proofs.lemmas.Grind.{pow_more}
use Rattle.mc_words.proofs.Powers.{is_power-pow}
use Rattle.mc_words.specs.Shapes.{IsPower}

-- between 2 and 2^20
pub few_buckets : (p : ℕ) → 1 ≤ p → p ≤ 20 → (2 ≤ 2 ^ p) × (2 ^ p ≤ 1048576)
few_buckets p low high =
    let from : 2 ^ 1 ≤ 2 ^ p = pow-le-pow_right (lit< tt) low in
    let to : 2 ^ p ≤ 2 ^ 20 = pow-le-pow_right (lit< tt) high in
    (omega (arith, from), omega (arith, to))

-- a power of two up to 8192 is one, and so is 8192
pub few_stripes : (p : ℕ) → 1 ≤ p → p ≤ 20 → IsPower (min (2 ^ p) 8192)
few_stripes p low high =
    elim (cases_lt p 13) [
      | inl small ↦
          let to : 2 ^ p ≤ 2 ^ 13 = pow-le-pow_right (lit< tt) {j = 13} (omega (arith, small)) in
          let is : min (2 ^ p) 8192 ≡ 2 ^ p = omega (arith, to) in
          subst IsPower (sym is) (is_power-pow p (omega arith))
      | inr great ↦
          let from : 2 ^ 13 ≤ 2 ^ p = pow-le-pow_right (lit< tt) great in
          let is : min (2 ^ p) 8192 ≡ 2 ^ 13 = omega (arith, from) in
          subst IsPower (sym is) (is_power-pow 13 (omega arith))
    ]

-- more than two buckets are a power above the first
pub some_power : (p : ℕ) → 2 < 2 ^ p → 1 < p
some_power p many =
    elim (cases_lt 1 p) [
      | inl more ↦ more
      | inr few ↦ let to : 2 ^ p ≤ 2 ^ 1 = pow-le-pow_right (lit< tt) few in absurd (omega (arith, to, many))
    ]

-- twice as many
pub pow_next : (p : ℕ) → 2 ^ (p + 1) ≡ 2 * 2 ^ p
pow_next p = pow_more 2 p ∙ omega arith
