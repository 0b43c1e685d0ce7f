-- The lines of some bytes, one after the other.
use Rattle.std.proofs.Common.{◌≡◌, ℕ, zero, suc, ◌<◌, ◌≤◌, List, [], ◌∷◌, ◌+◌, length, refl, ap, ◌∙◌, arith, inl, inr, eq-eqb, ne_eqb}
use Rattle.std.specs.Io.BufRead.{first_line, drop_through}
use Rattle.std.proofs.lemmas.Bool.{cond-true, cond-false, cases_eq}
use Rattle.mc_script.specs.Lines.{lines_within, lines_of, after_lines}

-- what follows a line is shorter
length-drop_through : (byte x : ℕ) (xs : List ℕ) → length (drop_through byte (x ∷ xs)) ≤ length xs
length-drop_through byte x [] = grind arith
length-drop_through byte x (y ∷ ys) =
    let rest = length-drop_through byte y ys in
    elim (cases_eq x byte) [
      | inl same ↦ let e : drop_through byte (x ∷ y ∷ ys) ≡ y ∷ ys = cond-true _ _ _ (eq-eqb x byte same) in omega (arith, ap length e)
      | inr other ↦ let e : drop_through byte (x ∷ y ∷ ys) ≡ drop_through byte (y ∷ ys) = cond-false _ _ _ (ne_eqb x byte other) in omega (arith, ap length e)
    ]

-- more room than the bytes need gives the same lines
lines_within-same : (m n : ℕ) (xs : List ℕ) → length xs ≤ m → length xs ≤ n → lines_within m xs ≡ lines_within n xs
unfolding lines_within
lines_within-same zero zero xs a b = refl
lines_within-same zero (suc n) [] a b = refl
lines_within-same zero (suc n) (x ∷ xs) a b = absurd (omega arith)
lines_within-same (suc m) zero [] a b = refl
lines_within-same (suc m) zero (x ∷ xs) a b = absurd (omega arith)
lines_within-same (suc m) (suc n) [] a b = refl
lines_within-same (suc m) (suc n) (x ∷ xs) a b =
    let shorter = length-drop_through 10 x xs in
    ap (λ l. first_line (x ∷ xs) ∷ l) (lines_within-same m n (drop_through 10 (x ∷ xs)) (omega arith) (omega arith))

-- the first line, and then the lines of the bytes after it
pub lines-step : (xs : List ℕ) → 0 < length xs → lines_of xs ≡ first_line xs ∷ lines_of (drop_through 10 xs)
unfolding lines_within
lines-step [] some = absurd (omega arith)
lines-step (x ∷ xs) some =
    let shorter = length-drop_through 10 x xs in
    ap (λ l. first_line (x ∷ xs) ∷ l) (lines_within-same (length xs) _ (drop_through 10 (x ∷ xs)) shorter (omega arith))

-- no bytes have no lines
pub lines-nil : lines_of [] ≡ []
unfolding lines_within
lines-nil = refl

-- one line more is the first line of the bytes after the others
pub after_lines-step : (n : ℕ) (xs : List ℕ) → after_lines (n + 1) xs ≡ drop_through 10 (after_lines n xs)
unfolding after_lines
after_lines-step n xs = ap (λ (k : ℕ). after_lines k xs) (one_more n) ∙ step n xs
  where
    one_more : (k : ℕ) → k + 1 ≡ suc k
    one_more k = omega arith

    step : (k : ℕ) (xs : List ℕ) → after_lines (suc k) xs ≡ drop_through 10 (after_lines k xs)
    step zero xs = refl
    step (suc k) xs = step k (drop_through 10 xs)

-- no line is passed over
pub after_lines-zero : (xs : List ℕ) → after_lines 0 xs ≡ xs
unfolding after_lines
after_lines-zero xs = refl
