-- The words of some bytes, one after the other.
use Rattle.std.proofs.Common.{◌≡◌, ℕ, zero, suc, ◌+◌, ◌<◌, ◌≤◌, Bool, true, false, not, List, [], ◌∷◌, length, take, drop, Option, Some, None, cond, nat_lt, MatchOption, arith, refl, sym, ap, ◌∙◌, length-drop, drop_of_length-le}
use Rattle.std.specs.List.{take_while, prefix_len, position, position_or_len}
use Rattle.std.specs.Option.{unwrap_or, is_some}
use Rattle.std.specs.Borrow.{Bor}
use Rattle.std.proofs.lemmas.Bool.Decides.{nat_tests}
use Rattle.mc_script.specs.Words.{is_blank, is_inner, words_within, words_of}
use Rattle.mc_script.specs.Inside.Words.{FirstWord}

-- a prefix is no longer than the list
pub prefix_len-le : {X : Type 0} (p : X → Bool) (xs : List X) → prefix_len p xs ≤ length xs
prefix_len-le p [] = omega arith
prefix_len-le p (x ∷ xs) = at (p x) (prefix_len-le p xs)
  where
    at : (b : Bool) → prefix_len p xs ≤ length xs → cond b (1 + prefix_len p xs) 0 ≤ length (x ∷ xs)
    at true le = omega arith
    at false le = omega arith

-- more room than the bytes need gives the same words
pub words_within-same : (m n : ℕ) (xs : List ℕ) → length xs ≤ m → length xs ≤ n → words_within m xs ≡ words_within n xs
unfolding words_within
words_within-same zero zero xs a b = refl
words_within-same zero (suc n) [] a b = refl
words_within-same zero (suc n) (x ∷ xs) a b = absurd (omega arith)
words_within-same (suc m) zero [] a b = refl
words_within-same (suc m) zero (x ∷ xs) a b = absurd (omega arith)
words_within-same (suc m) (suc n) [] a b = refl
words_within-same (suc m) (suc n) (x ∷ xs) a b = at (words_within-same m n) (is_blank x) refl
  where
    at : ((ys : List ℕ) → length ys ≤ m → length ys ≤ n → words_within m ys ≡ words_within n ys) → (t : Bool) → is_blank x ≡ t
        → cond t (words_within m xs) (take_while is_inner (x ∷ xs) ∷ words_within m (drop (prefix_len is_inner (x ∷ xs)) (x ∷ xs)))
        ≡ cond t (words_within n xs) (take_while is_inner (x ∷ xs) ∷ words_within n (drop (prefix_len is_inner (x ∷ xs)) (x ∷ xs)))
    at again true e = again xs (omega arith) (omega arith)
    at again false e =
        let one : prefix_len is_inner (x ∷ xs) ≡ 1 + prefix_len is_inner xs = ap (λ t. cond (not t) (1 + prefix_len is_inner xs) 0) e in
        let len = length-drop (prefix_len is_inner (x ∷ xs)) (x ∷ xs) in
        ap (λ l. take_while is_inner (x ∷ xs) ∷ l) (again (drop (prefix_len is_inner (x ∷ xs)) (x ∷ xs)) (omega (arith, len, one)) (omega (arith, len, one)))

-- leading blanks make no word
pub words_after_blanks : (xs : List ℕ) → words_of xs ≡ words_of (drop (position_or_len is_inner xs) xs)
unfolding words_within
words_after_blanks [] = refl
words_after_blanks (x ∷ xs) = at (words_after_blanks xs) (is_blank x) refl
  where
    at : words_of xs ≡ words_of (drop (position_or_len is_inner xs) xs) → (t : Bool) → is_blank x ≡ t → words_of (x ∷ xs) ≡ words_of (drop (position_or_len is_inner (x ∷ xs)) (x ∷ xs))
    at again true e =
        let skip : position_or_len is_inner (x ∷ xs) ≡ suc (position_or_len is_inner xs) = ap (λ t. cond (not (not t)) (1 + position_or_len is_inner xs) 0) e ∙ omega arith in
        ap (λ t. cond t (words_of xs) (take_while is_inner (x ∷ xs) ∷ words_within (length xs) (drop (prefix_len is_inner (x ∷ xs)) (x ∷ xs)))) e
        ∙ again ∙ ap (λ k. words_of (drop k (x ∷ xs))) (sym skip)
    at again false e = ap (λ k. words_of (drop k (x ∷ xs))) (sym (ap (λ t. cond (not (not t)) (1 + position_or_len is_inner xs) 0) e))

-- a word at the front comes first
pub word_in_front : (x : ℕ) (xs : List ℕ) → is_blank x ≡ false
    → (words_of (x ∷ xs) ≡ take (prefix_len is_inner (x ∷ xs)) (x ∷ xs) ∷ words_of (drop (prefix_len is_inner (x ∷ xs)) (x ∷ xs))) × (0 < prefix_len is_inner (x ∷ xs))
unfolding words_within
word_in_front x xs e =
    let one : prefix_len is_inner (x ∷ xs) ≡ 1 + prefix_len is_inner xs = ap (λ t. cond (not t) (1 + prefix_len is_inner xs) 0) e in
    let len = length-drop (prefix_len is_inner (x ∷ xs)) (x ∷ xs) in (
      ap (λ t. cond t (words_of xs) (take_while is_inner (x ∷ xs) ∷ words_within (length xs) (drop (prefix_len is_inner (x ∷ xs)) (x ∷ xs)))) e
          ∙ ap (λ l. take_while is_inner (x ∷ xs) ∷ l) (words_within-same (length xs) (length (drop (prefix_len is_inner (x ∷ xs)) (x ∷ xs))) (drop (prefix_len is_inner (x ∷ xs)) (x ∷ xs)) (omega (arith, len, one)) (omega arith)),
      omega (arith, one),
    )

-- the byte where the first word begins
pub inner_at_start : (xs : List ℕ) → position_or_len is_inner xs < length xs → (x : ℕ) × (rest : List ℕ) × (drop (position_or_len is_inner xs) xs ≡ x ∷ rest) × (is_blank x ≡ false)
inner_at_start [] lt = absurd (omega arith)
inner_at_start (x ∷ xs) lt = at (inner_at_start xs) (is_blank x) refl
  where
    at : (position_or_len is_inner xs < length xs → (y : ℕ) × (rest : List ℕ) × (drop (position_or_len is_inner xs) xs ≡ y ∷ rest) × (is_blank y ≡ false)) → (t : Bool) → is_blank x ≡ t → (y : ℕ) × (rest : List ℕ) × (drop (position_or_len is_inner (x ∷ xs)) (x ∷ xs) ≡ y ∷ rest) × (is_blank y ≡ false)
    at again true e =
        let skip : position_or_len is_inner (x ∷ xs) ≡ suc (position_or_len is_inner xs) = ap (λ t. cond (not (not t)) (1 + position_or_len is_inner xs) 0) e ∙ omega arith in
        let more = again (omega (arith, skip, lt)) in
        (more.0, more.1, ap (λ k. drop k (x ∷ xs)) skip ∙ more.2, more.3)
    at again false e = (x, xs, ap (λ k. drop k (x ∷ xs)) (ap (λ t. cond (not (not t)) (1 + position_or_len is_inner xs) 0) e), e)

-- if nothing passes a test, the first place that does is the end
pub unwrap-position : {X : Type 0} (p : X → Bool) (xs : List X) → unwrap_or (position p xs) (length xs) ≡ position_or_len p xs
unwrap-position p xs = at (nat_lt (position_or_len p xs) (length xs)) refl
  where
    at : (t : Bool) → nat_lt (position_or_len p xs) (length xs) ≡ t → unwrap_or (cond t (Some (position_or_len p xs)) None) (length xs) ≡ position_or_len p xs
    at true e = refl
    at false e = let le = prefix_len-le (λ x. not (p x)) xs in grind (arith, nat_tests)

-- where a test first passes
pub position-cases : {X : Type 0} (p : X → Bool) (xs : List X) (o : Option ℕ) → o ≡ position p xs → MatchOption o (length xs ≤ position_or_len p xs) (λ i. (i ≡ position_or_len p xs) × (i < length xs))
position-cases p xs o e = at (nat_lt (position_or_len p xs) (length xs)) refl o e
  where
    at : (t : Bool) → nat_lt (position_or_len p xs) (length xs) ≡ t → (o : Option ℕ) → o ≡ cond t (Some (position_or_len p xs)) None → MatchOption o (length xs ≤ position_or_len p xs) (λ i. (i ≡ position_or_len p xs) × (i < length xs))
    at true t None e = absurd (cc)
    at true t (Some i) e = let same : i ≡ position_or_len p xs = cc in (same, grind (arith, nat_tests))
    at false t None e = grind (arith, nat_tests)
    at false t (Some i) e = absurd (cc)

-- bytes without a byte of a word have no words
pub no_words : (xs : List ℕ) (o : Option ℕ) → o ≡ position is_inner xs → o ≡ None → words_of xs ≡ []
unfolding words_within
no_words xs o e none =
    let all = rw none at (position-cases is_inner xs o e) in
    words_after_blanks xs ∙ ap words_of (drop_of_length-le xs all)

-- the first word, as it is cut out
pub first_word_is : (xs : List ℕ) (i n : ℕ) → Some i ≡ position is_inner xs → n ≡ prefix_len is_inner (drop i xs)
    → (words_of xs ≡ take n (drop i xs) ∷ words_of (drop n (drop i xs))) × (0 < n) × (n ≤ length (drop i xs))
first_word_is xs i n e len =
    let at = position-cases is_inner xs (Some i) e in
    let head = inner_at_start xs (omega (arith, at.0, at.1)) in
    let here : drop i xs ≡ head.0 ∷ head.1 = ap (λ k. drop k xs) at.0 ∙ head.2 in
    let front = word_in_front head.0 head.1 head.3 in
    let same : n ≡ prefix_len is_inner (head.0 ∷ head.1) = len ∙ ap (prefix_len is_inner) here in
    let le = prefix_len-le is_inner (drop i xs) in (
      words_after_blanks xs ∙ ap (λ k. words_of (drop k xs)) (sym at.0) ∙ rw (here, same) front.0,
      omega (arith, same, front.1),
      omega (arith, le, len),
    )

-- if no word is found there is none
pub none_found : (xs : List ℕ) (o : Option (Bor (List ℕ) × Bor (List ℕ))) → FirstWord xs o → is_some o ≡ false → words_of xs ≡ []
none_found xs None first none = first
none_found xs (Some found) first none = absurd (cc)

-- if a word is found there is one
pub some_found : (xs : List ℕ) (o : Option (Bor (List ℕ) × Bor (List ℕ))) → FirstWord xs o → is_some o ≡ true → 0 < length (words_of xs)
some_found xs None first some = absurd (cc)
some_found xs (Some found) first some = let len = ap length first.0 in omega (arith, len)
