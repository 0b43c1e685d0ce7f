-- The recency bits that share a word: what a step on one of them leaves of the others.
use Rattle.std.proofs.Common.{◌≡◌, ◌≢◌, ℕ, ◌-◌, ◌*◌, ◌/◌, ◌%◌, ◌^◌, ◌<◌, List, length, get_or, set, ap, sym, ◌∙◌, subst, arith, get_or-set_other, get_or-set_same}
use Rattle.std.specs.Int.{bit_at, w64}
use Rattle.std.specs.Int.RustNames.{bit_or}
use lib.Bits.{bit_and}
use Rattle.std.proofs.lemmas.Nat.Bits.{bit_at_or, bit_at-pow_same, bit_at-pow_other, bit_at_set_same, bit_at_set_other, bit_at_above, bit_at_clear_same, bit_at_clear_other, same_from_bits, shr_and_one}
use Rattle.std.proofs.Math.Nat.{mod-eq_of_lt}
use Rattle.std.proofs.Math.Decide.{dec_lt}
use Rattle.std.proofs.Math.Pow.{pow-lt}
use Rattle.std.proofs.lemmas.Nat.{and_le_l}
use mathlib.Core.Logic.{dite}
use native.Mathlib.Decide.{ℕ_discrete}
use Rattle.mc_words.specs.Places.{recency_place, all_words}
use Rattle.mc_words.specs.Recency.{recency_word, recency_bit, recency_words}
use Rattle.mc_words.specs.declared.shape.Shape.{Shape}
use Rattle.mc_shared.specs.declared.layout.Layout.{Layout}
use Rattle.mc_shared.specs.TableRule.{bit_in}

-- a recency bit is within its word
pub bit_low : (i : ℕ) → recency_bit i < 64
unfolding recency_bit
bit_low i = omega arith

-- the recency word of an item is within the table
pub recency_below : (V : ℕ) (sh : Shape) (i : ℕ) → i < sh.items → recency_place V sh i < all_words V sh
unfolding recency_word recency_words
recency_below V sh i l = omega arith

-- two items are at different places, or at different bits
pub recency_apart : (V : ℕ) (sh : Shape) (i k : ℕ) → recency_place V sh i ≡ recency_place V sh k → recency_bit i ≡ recency_bit k → i ≡ k
unfolding recency_word recency_bit
recency_apart V sh i k e b = omega (arith, e, b)

-- f changes no bit of a word but this one
abbrev pub Spares : ℕ → (ℕ → ℕ) → Type 0
Spares b f = (w c : ℕ) → c < 64 → c ≢ b → bit_at (f w) c ≡ bit_at w c

-- ---- `n | 1 << b` and `n & !(1 << b)`
-- what `1 << b` is
pub shifted : (b : ℕ) → b < 64 → 1 * 2 ^ b % 2 ^ 64 ≡ 2 ^ b
shifted b l = mod-eq_of_lt (omega (arith, pow-lt l)) ∙ omega arith

-- the `or` sets this bit
pub or_here : (b w : ℕ) → b < 64 → bit_at (bit_or w (2 ^ b)) b ≡ 1
or_here b w l = subst (λ (m : ℕ). bit_at (bit_or w m) b ≡ 1) (shifted b l) (bit_at_set_same w64 w b l)

-- and no other
pub or_spares : (b : ℕ) → b < 64 → Spares b (λ w. bit_or w (2 ^ b))
or_spares b l w c _ ne = subst (λ (m : ℕ). bit_at (bit_or w m) c ≡ bit_at w c) (shifted b l) (bit_at_set_other w64 w b l c ne)

-- the `and` clears this bit
pub and_here : (b w : ℕ) → b < 64 → bit_at (bit_and w (2 ^ 64 - 1 - 2 ^ b)) b ≡ 0
and_here b w l = subst (λ (m : ℕ). bit_at (bit_and w (2 ^ 64 - 1 - m)) b ≡ 0) (shifted b l) (bit_at_clear_same w64 w b l)

-- and no other
pub and_spares : (b : ℕ) → b < 64 → Spares b (λ w. bit_and w (2 ^ 64 - 1 - 2 ^ b))
and_spares b l w c below ne = subst (λ (m : ℕ). bit_at (bit_and w (2 ^ 64 - 1 - m)) c ≡ bit_at w c) (shifted b l) (bit_at_clear_other w64 w b l c below ne)

-- to set a bit that is set changes nothing
pub or_same : (b w : ℕ) → bit_at w b ≡ 1 → bit_or w (2 ^ b) ≡ w
or_same b w is = same_from_bits (bit_or w (2 ^ b)) w (λ c. dite (ℕ_discrete c b)
    (λ (e : c ≡ b). let o = bit_at_or w (2 ^ b) c in let p : bit_at (2 ^ b) c ≡ 1 = ap (bit_at (2 ^ b)) e ∙ bit_at-pow_same b in let h : bit_at w c ≡ 1 = ap (bit_at w) e ∙ is in omega (arith, o, p, h))
    (λ ne. let o = bit_at_or w (2 ^ b) c in let p = bit_at-pow_other b c ne in omega (arith, o, p)))

-- to clear a bit that is clear changes nothing
pub and_same : (b w : ℕ) → b < 64 → w < 2 ^ 64 → bit_at w b ≡ 0 → bit_and w (2 ^ 64 - 1 - 2 ^ b) ≡ w
and_same b w l small is =
    let f : ℕ = bit_and w (2 ^ 64 - 1 - 2 ^ b) in
    same_from_bits f w (λ c. dite (ℕ_discrete c b)
    (λ (e : c ≡ b). ap (bit_at f) e ∙ (and_here b w l ∙ sym (ap (bit_at w) e ∙ is)))
    (λ ne. dite (dec_lt c 64)
    (λ below. and_spares b l w c below ne)
    (λ past. bit_at_above f 64 c (omega (arith, small, and_le_l w (2 ^ 64 - 1 - 2 ^ b))) (omega (arith, past)) ∙ sym (bit_at_above w 64 c small (omega (arith, past))))))

-- ---- the bits in the words
-- a step at another word
pub bit_elsewhere : (l : Layout) (words : List ℕ) (n x k : ℕ) → recency_place l.width l.shape k ≢ n → bit_in l (set words n x) k ≡ bit_in l words k
bit_elsewhere l words n x k ne = ap (λ (z : ℕ). bit_at z (recency_bit k)) (get_or-set_other words n (recency_place l.width l.shape k) x 0 ne)

-- a step at the item's word
pub bit_there : (l : Layout) (words : List ℕ) (i x : ℕ) → recency_place l.width l.shape i < length words → bit_in l (set words (recency_place l.width l.shape i) x) i ≡ bit_at x (recency_bit i)
bit_there l words i x long = ap (λ (z : ℕ). bit_at z (recency_bit i)) (get_or-set_same words (recency_place l.width l.shape i) x 0 long)

-- a step on an item's bit leaves the bits of other items, those of its own word too
pub bit_spared : (l : Layout) (words : List ℕ) (i k : ℕ) (f : ℕ → ℕ) → Spares (recency_bit i) f → i ≢ k → recency_place l.width l.shape i < length words
    → bit_in l (set words (recency_place l.width l.shape i) (f (get_or words (recency_place l.width l.shape i) 0))) k ≡ bit_in l words k
bit_spared l words i k f spares ne long =
    let n : ℕ = recency_place l.width l.shape i in
    let v : ℕ = f (get_or words n 0) in
    dite (ℕ_discrete (recency_place l.width l.shape k) n)
    (λ (e : recency_place l.width l.shape k ≡ n).
    ap (λ (z : ℕ). bit_at (get_or (set words n v) z 0) (recency_bit k)) e
    ∙ (ap (λ (z : ℕ). bit_at z (recency_bit k)) (get_or-set_same words n v 0 long)
    ∙ (spares (get_or words n 0) (recency_bit k) (bit_low k) (λ z. ne (recency_apart l.width l.shape i k (sym e) (sym z)))
    ∙ ap (λ (z : ℕ). bit_at (get_or words z 0) (recency_bit k)) (sym e))))
    (λ other. bit_elsewhere l words n v k other)

-- ---- the bit that a load found, as the rule has it
pub bit_is : (found bit item j : ℕ) → j ≡ item → bit ≡ recency_bit item → bit_at found (recency_bit j) ≡ bit_and (found / 2 ^ bit) 1
bit_is found bit item j same here = ap (λ (k : ℕ). bit_at found (recency_bit k)) same ∙ (ap (bit_at found) (sym here) ∙ sym (shr_and_one found bit))
