-- The parts of a key are in their ranges, and the two buckets of a key give each other.
use Rattle.std.proofs.Common.{ℕ, zero, suc, ◌≡◌, ◌≢◌, ◌+◌, ◌*◌, ◌/◌, ◌%◌, ◌^◌, ◌<◌, ◌≤◌, ◌-◌, sym, ◌∙◌, ap, subst, arith}
use Rattle.mc_words.specs.Keys.{stripe_of, tag_of, alternate, first_of, mixed_key, xor_shift, offset_of}
use Rattle.mc_words.specs.Shapes.{IsShape, IsPower}
use Rattle.std.specs.Prelude.{bit_xor, bit_and}
use Rattle.std.specs.Int.{w32, trailing_zeros}
use Rattle.std.specs.Int.Bits.{xor_assoc, xor_self, xor_zero_l, xor_zero_r}
use Rattle.std.proofs.lemmas.Nat.{xor_lt, and_mask}
use Rattle.std.proofs.Math.Nat.{mod-add-div, pow-suc}
use Rattle.mc_words.specs.declared.mix.Mix.{Mix}
use Rattle.mc_words.specs.declared.mix.Mix.TheVariants.{Plain, Fmix}
use Rattle.mc_words.specs.declared.shape.Shape.{Shape}

-- a mask of a power of two less one is the remainder
pub and_power : (n b : ℕ) → IsPower b → bit_and n (b - 1) ≡ n % b
and_power n b p = subst (λ (y : ℕ). bit_and n (y - 1) ≡ n % y) (sym p) (and_mask n (trailing_zeros w32 b))

pub stripe_of-lt : (sh : Shape) (k : ℕ) → IsShape sh → stripe_of sh k < sh.stripes
unfolding stripe_of
stripe_of-lt sh k s = omega (arith, s.stripes.0)

pub first_of-lt : (sh : Shape) (k : ℕ) → IsShape sh → first_of sh k < sh.buckets
unfolding first_of
first_of-lt sh k s = omega (arith, s.buckets.0)

folded-lt : (h : ℕ) → h < 2 ^ 64 → xor_shift h < 2 ^ 64
folded-lt h l = xor_lt 64 h (h / 2 ^ 33) l (omega arith)

mixed-lt : (m : Mix) (k : ℕ) → k < 2 ^ 64 → mixed_key m k < 2 ^ 64
unfolding mixed_key
mixed-lt Plain k l = l
mixed-lt Fmix k l = folded-lt (xor_shift (xor_shift k * 0xff51afd7ed558ccd % 2 ^ 64) * 0xc4ceb9fe1a85ec53 % 2 ^ 64) (omega arith)

pub tag_of-lt : (sh : Shape) (k : ℕ) → k < 2 ^ 64 → tag_of sh k < 256
unfolding tag_of
tag_of-lt sh k h = let l = mixed-lt sh.mix k h in omega arith

pub alternate-alternate : (sh : Shape) (b t : ℕ) → alternate sh (alternate sh b t) t ≡ b
unfolding alternate
alternate-alternate sh b t = xor_assoc b (offset_of sh t) (offset_of sh t) ∙ ap (λ y. bit_xor b y) (xor_self (offset_of sh t)) ∙ xor_zero_r b

pub alternate-lt : (sh : Shape) (b t : ℕ) → IsShape sh → b < sh.buckets → alternate sh b t < sh.buckets
unfolding alternate offset_of
alternate-lt sh b t s l =
    let some : 2 ≤ sh.buckets = s.buckets.0 in
    let o : offset_of sh t < sh.buckets = omega arith in
    subst (λ (y : ℕ). bit_xor b (offset_of sh t) < y) (sym s.buckets.2) (xor_lt (trailing_zeros w32 sh.buckets) b (offset_of sh t) (subst (λ (y : ℕ). b < y) s.buckets.2 l) (subst (λ (y : ℕ). offset_of sh t < y) s.buckets.2 o))

-- a bucket's offset is odd, since the number of buckets is even and the factor is odd
even_power : (e : ℕ) → 1 < 2 ^ e → (p : ℕ) × (2 ^ e ≡ p * 2)
even_power zero l = absurd (omega arith)
even_power (suc e) l = (2 ^ e, pow-suc 2 e)

offset_of-some : (sh : Shape) (t : ℕ) → IsShape sh → offset_of sh t ≢ 0
unfolding offset_of
offset_of-some sh t s z =
    let even = even_power (trailing_zeros w32 sh.buckets) (subst (λ (y : ℕ). 1 < y) s.buckets.2 s.buckets.0) in
    let x = (2 * t + 1) * 0x5bd1e995 in
    let q = x / sh.buckets in
    let parts : x % sh.buckets + sh.buckets * q ≡ x = mod-add-div x sh.buckets in
    let twice : sh.buckets * q ≡ 2 * (even.0 * q) = ap (λ y. y * q) (s.buckets.2 ∙ even.1) ∙ grind arith in
    omega (arith, parts, twice, z)

pub alternate-ne : (sh : Shape) (b t : ℕ) → IsShape sh → alternate sh b t ≢ b
unfolding alternate
alternate-ne sh b t s e =
    let o = offset_of sh t in
    offset_of-some sh t s (sym (xor_zero_l o) ∙ ap (λ y. bit_xor y o) (sym (xor_self b)) ∙ xor_assoc b b o ∙ ap (λ y. bit_xor b y) e ∙ xor_self b)
