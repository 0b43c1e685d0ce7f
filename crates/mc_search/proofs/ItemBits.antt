-- The bits of items, 64 to a word.
use Rattle.std.proofs.Common.{ℕ, zero, suc, ◌≡◌, ◌≢◌, ◌+◌, ◌-◌, ◌*◌, ◌/◌, ◌%◌, ◌^◌, ◌<◌, ◌≤◌, ◌∙◌, inl, inr, List, length, get_or, set, replicate, ap, refl, sym, subst, arith, get_or-set_other, get_or-set_same}
use Rattle.std.specs.Int.{bit_at, bit_not, w64}
use Rattle.std.specs.Int.RustNames.{bit_or}
use lib.Bits.{bit_and}
use Rattle.std.proofs.lemmas.Bool.{cases_eq, cases_lt}
use Rattle.std.proofs.lemmas.List.{get_or-replicate, get_or_default, get_or_past, length-replicate}
use Rattle.std.proofs.lemmas.Nat.{div-mul-add, mod-mul-add}
use Rattle.std.proofs.lemmas.Nat.Bits.{bit_at-lt, bit_at_and, bit_at_mask_inside, ones_shl, bit_at-zero, bit_at_set_same, bit_at_set_other, bit_at_clear_same, bit_at_clear_other}
use Rattle.mc_search.specs.ItemSets.{bit_among, counted}

-- f changes no bit of a word but this one
abbrev pub Spares : ℕ → (ℕ → ℕ) → Type 0
Spares b f = (w c : ℕ) → c < 64 → c ≢ b → bit_at (f w) c ≡ bit_at w c

-- what `1 << b` adds to a word, and what `!(1 << b)` leaves of it
abbrev pub with_bit : ℕ → ℕ → ℕ
with_bit b w = bit_or w (1 * 2 ^ b % 2 ^ 64)

abbrev pub without_bit : ℕ → ℕ → ℕ
without_bit b w = bit_and w (bit_not w64 (1 * 2 ^ b % 2 ^ 64))

pub with_spares : (b : ℕ) → b < 64 → Spares b (with_bit b)
with_spares b l w c _ ne = bit_at_set_other w64 w b l c ne

pub without_spares : (b : ℕ) → b < 64 → Spares b (without_bit b)
without_spares b l w c below ne = bit_at_clear_other w64 w b l c below ne

-- a word that is written has its item's bit
pub bit_here : (ws : List ℕ) (i x : ℕ) → i / 64 < length ws → bit_among (set ws (i / 64) x) i ≡ bit_at x (i % 64)
unfolding bit_among
bit_here ws i x l = ap (λ (z : ℕ). bit_at z (i % 64)) (get_or-set_same ws (i / 64) x 0 l)

-- and the bits of other items, those of its own word too
pub bit_spared : (ws : List ℕ) (i k : ℕ) (f : ℕ → ℕ) → Spares (i % 64) f → k ≢ i → i / 64 < length ws → bit_among (set ws (i / 64) (f (get_or ws (i / 64) 0))) k ≡ bit_among ws k
unfolding bit_among
bit_spared ws i k f spares ne l =
    let n : ℕ = i / 64 in
    let v : ℕ = f (get_or ws n 0) in
    elim (cases_eq (k / 64) n) [
      | inl e ↦
          ap (λ (z : ℕ). bit_at (get_or (set ws n v) z 0) (k % 64)) e
          ∙ (ap (λ (z : ℕ). bit_at z (k % 64)) (get_or-set_same ws n v 0 l)
          ∙ (spares (get_or ws n 0) (k % 64) (omega arith) (λ z. ne (omega (arith, e, z)))
          ∙ ap (λ (z : ℕ). bit_at (get_or ws z 0) (k % 64)) (sym e)))
      | inr other ↦ ap (λ (z : ℕ). bit_at z (k % 64)) (get_or-set_other ws n (k / 64) v 0 other)
    ]

-- the word that was found there
found_is : (ws : List ℕ) (n w : ℕ) → w ≡ get_or ws n w → n < length ws → get_or ws n 0 ≡ w
found_is ws n w is l = get_or_default ws n 0 w l ∙ sym is

-- an item is added
pub added_here : (ws : List ℕ) (i w : ℕ) → i / 64 < length ws → bit_among (set ws (i / 64) (with_bit (i % 64) w)) i ≡ 1
added_here ws i w l = bit_here ws i (with_bit (i % 64) w) l ∙ bit_at_set_same w64 w (i % 64) (omega arith)

pub added_others : (ws : List ℕ) (i w k : ℕ) → w ≡ get_or ws (i / 64) w → k ≢ i → i / 64 < length ws → bit_among (set ws (i / 64) (with_bit (i % 64) w)) k ≡ bit_among ws k
added_others ws i w k is ne l =
    subst (λ (x : ℕ). bit_among (set ws (i / 64) (with_bit (i % 64) x)) k ≡ bit_among ws k) (found_is ws (i / 64) w is l)
    (bit_spared ws i k (with_bit (i % 64)) (with_spares (i % 64) (omega arith)) ne l)

-- or taken out
pub removed_here : (ws : List ℕ) (i w : ℕ) → i / 64 < length ws → bit_among (set ws (i / 64) (without_bit (i % 64) w)) i ≡ 0
removed_here ws i w l = bit_here ws i (without_bit (i % 64) w) l ∙ bit_at_clear_same w64 w (i % 64) (omega arith)

pub removed_others : (ws : List ℕ) (i w k : ℕ) → w ≡ get_or ws (i / 64) w → k ≢ i → i / 64 < length ws → bit_among (set ws (i / 64) (without_bit (i % 64) w)) k ≡ bit_among ws k
removed_others ws i w k is ne l =
    subst (λ (x : ℕ). bit_among (set ws (i / 64) (without_bit (i % 64) x)) k ≡ bit_among ws k) (found_is ws (i / 64) w is l)
    (bit_spared ws i k (without_bit (i % 64)) (without_spares (i % 64) (omega arith)) ne l)

-- a word of no bits has no item
pub none_in : (ws : List ℕ) (n j : ℕ) → get_or ws n 0 ≡ 0 → j / 64 ≡ n → bit_among ws j ≡ 0
unfolding bit_among
none_in ws n j is at = ap (λ (z : ℕ). bit_at (get_or ws z 0) (j % 64)) at ∙ (ap (λ (z : ℕ). bit_at z (j % 64)) is ∙ bit_at-zero (j % 64))

-- nor has a word past the last
pub none_past : (ws : List ℕ) (j : ℕ) → length ws ≤ j / 64 → bit_among ws j ≡ 0
none_past ws j past = none_in ws (j / 64) j (get_or_past ws (j / 64) 0 past) refl

-- new words have none
pub none_yet : (n i : ℕ) → bit_among (replicate n 0) i ≡ 0
none_yet n i = elim (cases_lt (i / 64) n) [
  | inl inside ↦ none_in (replicate n 0) (i / 64) i (get_or-replicate n (i / 64) 0 0 inside) refl
  | inr past ↦ none_past (replicate n 0) i (omega (arith, length-replicate {A = ℕ} n 0, past))
]

-- the item of a bit of a word
pub one_in : (ws : List ℕ) (n t : ℕ) → t < 64 → bit_at (get_or ws n 0) t ≡ 1 → bit_among ws (n * 64 + t) ≡ 1
unfolding bit_among
one_in ws n t l is =
    ap (λ (z : ℕ). bit_at (get_or ws z 0) ((n * 64 + t) % 64)) (div-mul-add n 64 t l)
    ∙ (ap (λ (z : ℕ). bit_at (get_or ws n 0) z) (mod-mul-add n 64 t l) ∙ is)

-- if a word has no bit from this one on, it has no item from this one on
pub none_from : (ws : List ℕ) (n s v j : ℕ) → v ≡ 0 → ((t : ℕ) → s ≤ t → t < 64 → bit_at v t ≡ bit_at (get_or ws n 0) t) → j / 64 ≡ n → s ≤ j % 64 → bit_among ws j ≡ 0
unfolding bit_among
none_from ws n s v j is same at from =
    ap (λ (z : ℕ). bit_at (get_or ws z 0) (j % 64)) at
    ∙ (sym (same (j % 64) from (omega arith)) ∙ (ap (λ (z : ℕ). bit_at z (j % 64)) is ∙ bit_at-zero (j % 64)))

-- ---- how many items there are
pub bit_below : (ws : List ℕ) (i : ℕ) → bit_among ws i < 2
unfolding bit_among
bit_below ws i = bit_at-lt (get_or ws (i / 64) 0) (i % 64)

pub counted_le : (ws : List ℕ) (n : ℕ) → counted ws n ≤ n
unfolding counted
counted_le ws zero = omega arith
counted_le ws (suc n) = omega (arith, counted_le ws n, bit_below ws n)

-- no bit is set
pub counted_none : (ws : List ℕ) (n : ℕ) → ((k : ℕ) → bit_among ws k ≡ 0) → counted ws n ≡ 0
unfolding counted
counted_none ws zero none = refl
counted_none ws (suc n) none = omega (arith, none n, counted_none ws n none)

-- some bit is set
pub counted_some : (ws : List ℕ) (n i : ℕ) → i < n → bit_among ws i ≡ 1 → 0 < counted ws n
unfolding counted
counted_some ws zero i l is = absurd (omega arith)
counted_some ws (suc n) i l is = elim (cases_eq i n) [
  | inl e ↦ let here : bit_among ws n ≡ 1 = ap (bit_among ws) (sym e) ∙ is in omega (arith, here)
  | inr ne ↦ omega (arith, counted_some ws n i (omega (arith, l, ne)) is)
]

-- the same bits are set
pub counted_same : (ws vs : List ℕ) (n : ℕ) → ((k : ℕ) → k < n → bit_among vs k ≡ bit_among ws k) → counted vs n ≡ counted ws n
unfolding counted
counted_same ws vs zero same = refl
counted_same ws vs (suc n) same = omega (arith, same n (omega arith), counted_same ws vs n (λ k l. same k (omega (arith, l))))

-- one bit more is set
pub counted_more : (ws vs : List ℕ) (n i : ℕ) → i < n → bit_among vs i ≡ bit_among ws i + 1 → ((k : ℕ) → k ≢ i → bit_among vs k ≡ bit_among ws k) → counted vs n ≡ counted ws n + 1
unfolding counted
counted_more ws vs zero i l here others = absurd (omega arith)
counted_more ws vs (suc n) i l here others = elim (cases_eq i n) [
  | inl e ↦
      let now : bit_among vs n ≡ bit_among ws n + 1 = ap (bit_among vs) (sym e) ∙ (here ∙ ap (λ (z : ℕ). bit_among ws z + 1) e) in
      let rest = counted_same ws vs n (λ k below. others k (λ is. absurd (omega (arith, below, is, e)))) in
      omega (arith, now, rest)
  | inr ne ↦ omega (arith, others n (λ is. ne (sym is)), counted_more ws vs n i (omega (arith, l, ne)) here others)
]

-- ---- the bits of a word from one on
pub from_same : (word k t : ℕ) → k < 64 → k ≤ t → t < 64 → bit_at (bit_and word ((2 ^ 64 - 1) * 2 ^ k % 2 ^ 64)) t ≡ bit_at word t
from_same word k t l from below =
    let m : ℕ = (2 ^ 64 - 1) * 2 ^ k % 2 ^ 64 in
    let one : bit_at m t ≡ 1 = ap (λ (z : ℕ). bit_at z t) (ones_shl 64 k (omega (arith, l))) ∙ bit_at_mask_inside k 64 t from below in
    omega (arith, bit_at_and word m t, one, bit_at-lt word t)

pub from_set : (word m t : ℕ) → bit_at (bit_and word m) t ≡ 1 → bit_at word t ≡ 1
from_set word m t is = omega (arith, bit_at_and word m t, is, bit_at-lt word t)

-- ---- a search word by word
pub one_found : (ws : List ℕ) (n t w : ℕ) → w ≡ get_or ws n w → n < length ws → t < 64 → bit_at w t ≡ 1 → bit_among ws (n * 64 + t) ≡ 1
one_found ws n t w is inside l set = one_in ws n t l (ap (λ (z : ℕ). bit_at z t) (found_is ws n w is inside) ∙ set)

-- the word has no bit from this item's on
pub none_rest : (ws : List ℕ) (from v w j : ℕ) → w ≡ get_or ws (from / 64) w → from / 64 < length ws → v ≡ 0 → ((t : ℕ) → from % 64 ≤ t → t < 64 → bit_at v t ≡ bit_at w t)
    → from ≤ j → j < (from / 64 + 1) * 64 → bit_among ws j ≡ 0
none_rest ws from v w j is inside none same after below =
    let found = found_is ws (from / 64) w is inside in
    none_from ws (from / 64) (from % 64) v j none (λ t a b. same t a b ∙ ap (λ (z : ℕ). bit_at z t) (sym found)) (omega (arith, after, below)) (omega (arith, after, below))

-- one more word has none
pub none_more : (ws : List ℕ) (from n w : ℕ) → w ≡ get_or ws n w → n < length ws → w ≡ 0 → ((j : ℕ) → from ≤ j → j < n * 64 → bit_among ws j ≡ 0) → (j : ℕ) → from ≤ j → j < (n + 1) * 64 → bit_among ws j ≡ 0
none_more ws from n w is inside none before j after below = elim (cases_lt j (n * 64)) [
  | inl early ↦ before j after early
  | inr late ↦ none_in ws n j (found_is ws n w is inside ∙ none) (omega (arith, late, below))
]

-- no word is left
pub none_left : (ws : List ℕ) (from n : ℕ) → length ws ≤ n → ((j : ℕ) → from ≤ j → j < n * 64 → bit_among ws j ≡ 0) → (j : ℕ) → from ≤ j → bit_among ws j ≡ 0
none_left ws from n past before j after = elim (cases_lt j (n * 64)) [
  | inl early ↦ before j after early
  | inr late ↦ none_past ws j (omega (arith, past, late))
]

-- a bit that is not set is clear
pub clear_from : (ws : List ℕ) (i : ℕ) → (bit_among ws i ≡ 1 → ⊥) → bit_among ws i ≡ 0
clear_from ws i not = omega (arith, bit_below ws i, not)
