-- The parts of a key use different bits.
use Rattle.std.proofs.Common.{ℕ, zero, suc, ◌≡◌, ◌+◌, ◌-◌, ◌*◌, ◌/◌, ◌%◌, ◌^◌, ◌<◌, ◌≤◌, ◌∙◌, ◌⊎◌, ap, arith, inl, inr, sym}
use Rattle.std.specs.Int.{w32, trailing_zeros}
use Rattle.std.proofs.lemmas.Nat.{mod-mul-add, pow-add}
use Rattle.std.proofs.Math.Pow.{pow-lt}
use Rattle.mc_words.specs.Keys.{first_of, mixed_key, shard_of, stripe_of, tag_of}
use Rattle.mc_words.specs.declared.mix.Mix.{Mix}
use Rattle.mc_words.specs.declared.mix.Mix.TheVariants.{Plain}
use Rattle.mc_shards.specs.Spread.{Spreads}

le_or : (m n : ℕ) → (m ≤ n) ⊎ (n < m)
le_or zero n = inl (omega arith)
le_or (suc m) zero = inr (omega arith)
le_or (suc m) (suc n) = elim (le_or m n) [
  | inl l ↦ inl (omega (arith, l))
  | inr l ↦ inr (omega (arith, l))
]

-- a power of two divides each that is no less
divides : (n e f : ℕ) → n ≡ 2 ^ e → n ≤ 2 ^ f → (m : ℕ) × (2 ^ f ≡ m * n)
divides n e f is few = elim (le_or e f) [
  | inl l ↦ (2 ^ (f - e), ap (λ (x : ℕ). 2 ^ x) (omega (arith, l)) ∙ (pow-add 2 (f - e) e ∙ ap (λ (x : ℕ). 2 ^ (f - e) * x) (sym is)))
  | inr more ↦ let less : 2 ^ f < 2 ^ e = pow-lt more in absurd (omega (arith, less, is, few))
]

-- what is above is not in the low part
low : (a w m n r : ℕ) → w ≡ m * n → r < n → (a * w + r) % n ≡ r
low a w m n r is l =
    let same : a * (m * n) ≡ a * m * n = grind arith in
    ap (λ (x : ℕ). (a * x + r) % n) is ∙ (ap (λ (x : ℕ). (x + r) % n) same ∙ mod-mul-add (a * m) n r l)

abbrev key : ℕ → ℕ → ℕ → ℕ → ℕ
key tag shard stripe bucket = tag * 2 ^ 56 + shard * 2 ^ 48 + stripe * 2 ^ 32 + bucket

plain_is : (mix : Mix) (k : ℕ) → mix ≡ Plain → mixed_key mix k ≡ k
unfolding mixed_key
plain_is mix k is = ap (λ (m : Mix). mixed_key m k) is

pub spreads : Spreads
unfolding tag_of first_of stripe_of shard_of
spreads sh shards tag bucket stripe shard is some plain t b s n =
    let k : ℕ = key tag shard stripe bucket in
    let mixed : mixed_key sh.mix k ≡ k = plain_is sh.mix k plain in
    let few-buckets : sh.buckets ≤ 2 ^ 32 = omega (arith, is.buckets.1) in
    let in-shards = divides shards (trailing_zeros w32 shards) 8 some.2 some.1 in
    let in-stripes = divides sh.stripes (trailing_zeros w32 sh.stripes) 16 is.stripes.2 is.stripes.1 in
    let in-buckets = divides sh.buckets (trailing_zeros w32 sh.buckets) 32 is.buckets.2 few-buckets in
    let bucket-fits : bucket < 2 ^ 32 = omega (arith, b, few-buckets) in
    let stripe-fits : stripe < 2 ^ 16 = omega (arith, s, is.stripes.1) in
    let shard-fits : shard < 2 ^ 8 = omega (arith, n, some.1) in
    let above-bucket : k ≡ (tag * 2 ^ 24 + shard * 2 ^ 16 + stripe) * 2 ^ 32 + bucket = omega arith in
    let above-stripe : k / 2 ^ 32 ≡ (tag * 2 ^ 8 + shard) * 2 ^ 16 + stripe = omega (arith, bucket-fits) in
    let above-shard : k / 2 ^ 48 ≡ tag * 2 ^ 8 + shard = omega (arith, bucket-fits, stripe-fits) in
    let top : k / 2 ^ 56 ≡ tag = omega (arith, bucket-fits, stripe-fits, shard-fits) in (
      k,
      record {
        word = omega (arith, t, bucket-fits, stripe-fits, shard-fits);
        has_tag = ap (λ (h : ℕ). h / 2 ^ 56) mixed ∙ top;
        has_bucket = ap (λ (h : ℕ). h % sh.buckets) (mixed ∙ above-bucket) ∙ low (tag * 2 ^ 24 + shard * 2 ^ 16 + stripe) (2 ^ 32) in-buckets.0 sh.buckets bucket in-buckets.1 b;
        has_stripe = ap (λ (h : ℕ). (h / 2 ^ 32) % sh.stripes) mixed ∙ (ap (λ (h : ℕ). h % sh.stripes) above-stripe ∙ low (tag * 2 ^ 8 + shard) (2 ^ 16) in-stripes.0 sh.stripes stripe in-stripes.1 s);
        has_shard = ap (λ (h : ℕ). (h / 2 ^ 48) % shards) mixed ∙ (ap (λ (h : ℕ). h % shards) above-shard ∙ low tag (2 ^ 8) in-shards.0 shards shard in-shards.1 n);
      },
    )
