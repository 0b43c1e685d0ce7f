-- Recency bits in a word: one bit more, and where each item's bit is.
use Rattle.std.proofs.Common.{◌≡◌, ℕ, ◌+◌, ◌-◌, ◌*◌, ◌/◌, ◌%◌, ◌^◌, ◌<◌, ◌≤◌, List, length, get_or, inl, inr, refl, ap, sym, ◌∙◌, subst, arith}
use Rattle.std.specs.Prelude.{All, min}
use Rattle.std.specs.Int.{bit_at, w64}
use Rattle.std.specs.Int.RustNames.{bit_or}
use Rattle.std.proofs.lemmas.Bool.{cases_lt}
use Rattle.std.proofs.lemmas.List.{get_or_past}
use Rattle.std.proofs.lemmas.List.Elements.{All-get_or}
use Rattle.std.proofs.lemmas.Nat.Bits.{bit_at_set_same, bit_at_set_other}
use Rattle.std.proofs.lemmas.Nat.{or_lt}
use Rattle.mc_words.specs.Places.{word_count}
use Rattle.mc_words.specs.Recency.{recency_bit, recency_word}
use Rattle.mc_words.specs.declared.shape.Shape.{Shape}
use Rattle.mc_theory.specs.Traces.{Trace, IsBit, IsReached, first_trace}
use Rattle.mc_theory.proofs.Events.Bits.{bits_stay}
use Rattle.mc_theory.proofs.Events.Orders.{all_by_clock}
use Rattle.mc_core.specs.Seen.{WorldView, Shows}
use Rattle.mc_core.specs.Packed.{HasBits}
use Rattle.mc_core.specs.Inside.Packed.{IsPacked}
use mathlib.Core.Logic.{dite}
use native.Mathlib.Decide.{ℕ_discrete}

-- the first k bits of the word are those that f says, and it has no other
pub record HasFirst (f : ℕ → ℕ) (k word : ℕ) : Type 0 where
  pub small : word < 2 ^ 64
  pub done : (j : ℕ) → j < k → bit_at word j ≡ f j
  pub rest : (j : ℕ) → k ≤ j → bit_at word j ≡ 0

-- one bit more that is clear
pub bit_left : (f : ℕ → ℕ) (k word : ℕ) → f k ≡ 0 → HasFirst f k word → HasFirst f (k + 1) word
bit_left f k word zero' h = record {
  small = h.small;
  done = λ j l. dite (ℕ_discrete j k) (λ (e : j ≡ k). ap (bit_at word) e ∙ (h.rest k (omega arith) ∙ (sym zero' ∙ ap f (sym e)))) (λ ne. h.done j (omega (arith, ne)));
  rest = λ j l. h.rest j (omega arith);
}

-- one bit more that is set
pub bit_added : (f : ℕ → ℕ) (k word : ℕ) → k < 64 → f k ≡ 1 → HasFirst f k word → HasFirst f (k + 1) (bit_or word (1 * 2 ^ k % 2 ^ 64))
bit_added f k word l one h = record {
  small = or_lt 64 word (1 * 2 ^ k % 2 ^ 64) h.small (omega arith);
  done = λ j b. dite (ℕ_discrete j k)
      (λ (e : j ≡ k). ap (bit_at (bit_or word (1 * 2 ^ k % 2 ^ 64))) e ∙ (bit_at_set_same w64 word k l ∙ (sym one ∙ ap f (sym e))))
      (λ ne. bit_at_set_other w64 word k l j ne ∙ h.done j (omega (arith, ne)));
  rest = λ j b. bit_at_set_other w64 word k l j (λ e. omega (arith, e, b)) ∙ h.rest j (omega arith);
}

-- a bit is at most 1
bit_most : (x : ℕ) → IsBit x → min 1 x ≡ x
bit_most x (inl e) = subst (λ (y : ℕ). min 1 y ≡ y) (sym e) refl
bit_most x (inr e) = subst (λ (y : ℕ). min 1 y ≡ y) (sym e) refl

-- a number follows from its quotient and its remainder
parts : (i m : ℕ) → i / 64 ≡ m → 64 * m + i % 64 ≡ i
parts i m e = omega (arith, e)

-- the word that holds the bit
quotient : (m b : ℕ) → b < 64 → (64 * m + b) / 64 ≡ m
quotient m b l = omega arith

-- and its place in that word
remainder : (m b : ℕ) → b < 64 → (64 * m + b) % 64 ≡ b
remainder m b l = omega arith

-- 64 bits in a word are those of the items whose bits are there
pub packed_bits : (V : ℕ) (sh : Shape) (bits : List ℕ) (n word : ℕ) → length bits ≡ sh.items → All IsBit bits → word_count V sh ≤ n → IsPacked bits (n - word_count V sh) word → HasBits V sh bits n word
unfolding recency_word recency_bit
packed_bits V sh bits n word many all past packed =
    let m : ℕ = n - word_count V sh in
    record {
      small = packed.small;
      each = λ i below at.
          let index : 64 * m + i % 64 ≡ i = parts i m (omega (arith, at)) in
          packed.each (i % 64) (omega arith) ∙ ap (λ (j : ℕ). min 1 (get_or bits j 0)) index ∙ bit_most (get_or bits i 0) (All-get_or IsBit bits i 0 (omega (arith, many, below)) all);
      others = λ b none. elim (cases_lt b 64) [
        | inl low ↦ packed.each b low ∙ (elim (cases_lt (64 * m + b) sh.items) as (λ c. min 1 (get_or bits (64 * m + b) 0) ≡ 0) [
          | inl inside ↦ absurd (none (64 * m + b) inside (omega (arith, quotient m b low, past)) (remainder m b low))
          | inr outside ↦ ap (min 1) (get_or_past bits (64 * m + b) 0 (omega (arith, many, outside)))
        ])
        | inr high ↦ packed.past b high
      ];
    }

-- the bits that are shown are those of the events
pub bits_now : (V : ℕ) (now : WorldView V) (seen : Trace V) → Shows {V = V} now seen → IsReached V now.shape seen → (length now.bits ≡ now.shape.items) × All IsBit now.bits
bits_now V now seen shows reached = subst (λ (bits : List ℕ). (length bits ≡ now.shape.items) × All IsBit bits) (sym shows.bits)
    (bits_stay V now.shape reached.readers reached.events seen (all_by_clock V now.shape (first_trace V now.shape reached.readers) seen reached.events reached.runs))
