-- The first line of some bytes, known from a front of them.
use Rattle.std.proofs.Common.{◌≡◌, ◌≢◌, ℕ, ◌+◌, ◌-◌, ◌<◌, ◌≤◌, ◌⊎◌, inl, inr, Bool, true, false, All, List, [], ◌∷◌, ◌++◌, length, take, slice_index, cond, arith, refl, sym, ap, ◌∙◌, length-append, append-nil, length-take-le, eq-eqb, ne_eqb}
use Rattle.std.specs.Io.BufRead.{first_line, take_through, drop_through, strip_last, ends_with_byte}
use Rattle.std.proofs.BufReadLemmas.{take_through-append, drop_through-append}
use Rattle.std.proofs.Math.Seq.{take-append-add}
use Rattle.std.proofs.lemmas.Grind.{common_steps}
use Rattle.std.proofs.lemmas.Bool.{cond-true, cond-false}
use Rattle.std.proofs.lemmas.Bool.Decides.{nat_tests}
use Rattle.mc_script.specs.Lines.{is_over, length_over}

-- bytes are over by two more, or by one that is no carriage return
pub over_cases : (line : List ℕ) → is_over line ≡ true → (4097 < length line) ⊎ ((length line ≡ 4097) × (slice_index line 4096 ≢ 13))
over_cases line over = grind (arith, nat_tests)

-- bytes that are not over are at most one too many
pub over_not : (line : List ℕ) → is_over line ≡ false → length line ≤ 4097
over_not line over = grind (arith, nat_tests)

-- bytes that are not over fit, or end in a carriage return
pub over_else : (line : List ℕ) → is_over line ≡ false → (length line ≤ 4096) ⊎ ((length line ≡ 4097) × (slice_index line 4096 ≡ 13))
over_else line over = grind (arith, nat_tests)

-- if bytes end in a byte it is their last one
pub ends_cases : (byte : ℕ) (line : List ℕ) → (ends_with_byte byte line ≡ false) ⊎ ((ends_with_byte byte line ≡ true) × (0 < length line) × (slice_index line (length line - 1) ≡ byte))
ends_cases byte line = grind (arith, nat_tests)

-- the first line, from the bytes through its line feed and whether they end in one
cut_line : Bool → List ℕ → List ℕ
cut_line b t = cond b (strip_last 13 (cond b (take (length t - 1) t) t)) (cond b (take (length t - 1) t) t)

-- the first line is cut from the bytes through the first line feed
first_line-is : (xs t : List ℕ) (b : Bool) → take_through 10 xs ≡ t → ends_with_byte 10 t ≡ b → first_line xs ≡ cut_line b t
unfolding cut_line
first_line-is xs t b through ends = ap (λ t. cut_line (ends_with_byte 10 t) t) through ∙ ap (λ b. cut_line b t) ends

-- bytes without a byte do not end in it
plain_end : (byte : ℕ) (line : List ℕ) → All (λ x. x ≢ byte) line → ends_with_byte byte line ≡ false
plain_end byte line plain = elim (ends_cases byte line) [
  | inl e ↦ e
  | inr h ↦ absurd (plain (length line - 1) 0 (omega (arith, h.1)) h.2)
]

-- the last byte is cut from the second part
cut_last : (line : List ℕ) (x : ℕ) (xs : List ℕ) → take (length (line ++ x ∷ xs) - 1) (line ++ x ∷ xs) ≡ line ++ take (length xs) (x ∷ xs)
cut_last line x xs =
    let len = length-append line (x ∷ xs) in
    let n : length (line ++ x ∷ xs) - 1 ≡ length line + length xs = omega arith in
    ap (λ k. take k (line ++ x ∷ xs)) n ∙ take-append-add line (x ∷ xs) (length xs)

-- a front without a line feed stays, but for a carriage return at its end
line_beginning : (line more t : List ℕ) (b : Bool) → All (λ x. x ≢ 10) line → take_through 10 more ≡ t → ends_with_byte 10 (line ++ t) ≡ b
    → (u : List ℕ) × ((first_line (line ++ more) ≡ line ++ u) ⊎ (first_line (line ++ more) ≡ strip_last 13 (line ++ u)))
unfolding cut_line
line_beginning line more t false plain through ends =
    let part : take_through 10 (line ++ more) ≡ line ++ t = take_through-append 10 line more plain ∙ ap (λ t. line ++ t) through in
    (t, inl (first_line-is (line ++ more) (line ++ t) false part ends))
line_beginning line more [] true plain through ends =
    let none : ends_with_byte 10 (line ++ []) ≡ false = ap (ends_with_byte 10) (append-nil line) ∙ plain_end 10 line plain in
    absurd (cc)
line_beginning line more (x ∷ xs) true plain through ends =
    let part : take_through 10 (line ++ more) ≡ line ++ x ∷ xs = take_through-append 10 line more plain ∙ ap (λ t. line ++ t) through in
    (take (length xs) (x ∷ xs), inr (first_line-is (line ++ more) (line ++ x ∷ xs) true part ends ∙ ap (strip_last 13) (cut_last line x xs)))

-- if the last byte is a carriage return and the first part has none at its end, the second part is not empty
not_return : (line u : List ℕ) → length line ≡ 4097 → slice_index line 4096 ≢ 13 → length (line ++ u) ≡ length line + length u → slice_index (line ++ u) (length (line ++ u) - 1) ≡ 13 → 0 < length u
not_return line (x ∷ xs) long other len last = omega arith
not_return line [] long other len last =
    let same : line ++ [] ≡ line = append-nil line in
    let at = rw same at last in
    let k : length line - 1 ≡ 4096 = omega arith in
    absurd (other (rw k at at))

-- bytes that are over are too many without a last carriage return too
stripped_long : (line u : List ℕ) → is_over line ≡ true → 4096 < length (strip_last 13 (line ++ u))
stripped_long line u over = at (not_return line u) (ends_with_byte 13 (line ++ u)) refl (length-append line u) (over_cases line over) (ends_cases 13 (line ++ u))
  where
    at : (length line ≡ 4097 → slice_index line 4096 ≢ 13 → length (line ++ u) ≡ length line + length u → slice_index (line ++ u) (length (line ++ u) - 1) ≡ 13 → 0 < length u) → (b : Bool) → ends_with_byte 13 (line ++ u) ≡ b → length (line ++ u) ≡ length line + length u
        → (4097 < length line) ⊎ ((length line ≡ 4097) × (slice_index line 4096 ≢ 13))
        → (ends_with_byte 13 (line ++ u) ≡ false) ⊎ ((ends_with_byte 13 (line ++ u) ≡ true) × (0 < length (line ++ u)) × (slice_index (line ++ u) (length (line ++ u) - 1) ≡ 13))
        → 4096 < length (cond b (take (length (line ++ u) - 1) (line ++ u)) (line ++ u))
    at more false is len over ends = elim over [ inl h ↦ omega arith | inr h ↦ omega (arith, h.0) ]
    at more true is len over ends = elim ends [
      | inl e ↦ absurd (cc)
      | inr h ↦
          let n = length-take-le (length (line ++ u) - 1) (line ++ u) (omega arith) in
          elim over [ inl o ↦ omega (arith, n) | inr o ↦ omega (arith, n, o.0, len, more o.0 o.1 len h.2) ]
    ]

-- bytes that are over make the line too long, whatever follows
pub over_stays : (line more : List ℕ) → All (λ x. x ≢ 10) line → is_over line ≡ true → 4096 < length (first_line (line ++ more))
over_stays line more plain over =
    let begins = line_beginning line more (take_through 10 more) (ends_with_byte 10 (line ++ take_through 10 more)) plain refl refl in
    let u = begins.0 in
    let len = length-append line u in
    elim begins.1 [
      | inl e ↦ rw e (elim (over_cases line over) [ inl h ↦ omega arith | inr h ↦ omega (arith, h.0) ])
      | inr e ↦ rw e (stripped_long line u over)
    ]

-- a line that ends with the input
pub last_line : (line : List ℕ) → All (λ x. x ≢ 10) line → (first_line line ≡ line) × (drop_through 10 line ≡ [])
unfolding cut_line
last_line line plain =
    let all : take_through 10 line ≡ line = ap (take_through 10) (sym (append-nil line)) ∙ take_through-append 10 line [] plain ∙ append-nil line in
    let none = plain_end 10 line plain in (
      first_line-is line line false all none,
      ap (drop_through 10) (sym (append-nil line)) ∙ drop_through-append 10 line [] plain,
    )

-- a line feed at the end is there
ends_with_feed : (line : List ℕ) → ends_with_byte 10 (line ++ 10 ∷ []) ≡ true
ends_with_feed line =
    let len = length-append line (10 ∷ []) in
    let last : slice_index (line ++ 10 ∷ []) (length (line ++ 10 ∷ []) - 1) ≡ 10 = grind (arith, common_steps) in
    grind (arith, nat_tests)

-- a line that ends in a line feed
pub ended_line : (line more : List ℕ) → All (λ x. x ≢ 10) line → (first_line (line ++ 10 ∷ more) ≡ strip_last 13 line) × (drop_through 10 (line ++ 10 ∷ more) ≡ more)
unfolding cut_line
ended_line line more plain =
    let part : take_through 10 (line ++ 10 ∷ more) ≡ line ++ 10 ∷ [] = take_through-append 10 line (10 ∷ more) plain in
    let ends = ends_with_feed line in
    let cut : take (length (line ++ 10 ∷ []) - 1) (line ++ 10 ∷ []) ≡ line = cut_last line 10 [] ∙ append-nil line in (
      first_line-is (line ++ 10 ∷ more) (line ++ 10 ∷ []) true part ends ∙ ap (strip_last 13) cut,
      drop_through-append 10 line (10 ∷ more) plain,
    )

-- what a carriage return leaves fits
pub fits : (line : List ℕ) → is_over line ≡ false → length (strip_last 13 line) ≤ 4096
fits line short = at (ends_with_byte 13 line) refl (over_not line short) (ends_cases 13 line)
  where
    at : (b : Bool) → ends_with_byte 13 line ≡ b → length line ≤ 4097
        → (ends_with_byte 13 line ≡ false) ⊎ ((ends_with_byte 13 line ≡ true) × (0 < length line) × (slice_index line (length line - 1) ≡ 13))
        → length (cond b (take (length line - 1) line) line) ≤ 4096
    at false is le ends = elim (over_else line short) [
      | inl h ↦ h
      | inr h ↦ let full : length line ≡ 4097 = h.0 in let last : slice_index line 4096 ≡ 13 = h.1 in let t : ends_with_byte 13 line ≡ true = grind (arith, nat_tests) in absurd (cc)
    ]
    at true is le ends = let n = length-take-le (length line - 1) line (omega arith) in omega (arith, n)

-- bytes that became too many by their last one are as many as show it, whatever follows
pub length_over-first : (line more : List ℕ) (x : ℕ) → is_over line ≡ false → is_over (line ++ x ∷ []) ≡ true → length_over ((line ++ x ∷ []) ++ more) ≡ length (line ++ x ∷ [])
length_over-first line more x short over =
    let len = length-append line (x ∷ []) in
    at (over_else line short) (over_cases (line ++ x ∷ []) over) len
  where
    at : (length line ≤ 4096) ⊎ ((length line ≡ 4097) × (slice_index line 4096 ≡ 13)) → (4097 < length (line ++ x ∷ [])) ⊎ ((length (line ++ x ∷ []) ≡ 4097) × (slice_index (line ++ x ∷ []) 4096 ≢ 13)) → length (line ++ x ∷ []) ≡ length line + 1
        → length_over ((line ++ x ∷ []) ++ more) ≡ length (line ++ x ∷ [])
    at (inl fits) (inl many) len = absurd (omega arith)
    at (inl fits) (inr plain) len =
        let same : slice_index ((line ++ x ∷ []) ++ more) 4096 ≡ slice_index (line ++ x ∷ []) 4096 = grind (arith, common_steps) in
        let other : slice_index ((line ++ x ∷ []) ++ more) 4096 ≢ 13 = rw same plain.1 in
        cond-false _ 4098 4097 (ne_eqb _ 13 other) ∙ sym plain.0
    at (inr full) over len =
        let same : slice_index ((line ++ x ∷ []) ++ more) 4096 ≡ slice_index line 4096 = grind (arith, common_steps) in
        cond-true _ 4098 4097 (eq-eqb _ 13 (same ∙ full.1)) ∙ omega (arith, len, full.0)

-- bytes that are not over, and too many for a line, end in a carriage return
pub length_over-last : (line : List ℕ) → is_over line ≡ false → 4096 < length line → (length_over line ≡ 4098) × (length line ≡ 4097)
length_over-last line short long = elim (over_else line short) [
  | inl fits ↦ absurd (omega arith)
  | inr full ↦ (cond-true _ 4098 4097 (eq-eqb _ 13 full.1), full.0)
]
