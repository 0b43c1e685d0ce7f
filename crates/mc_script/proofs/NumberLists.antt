-- Words that are read as numbers, one after the other.
use Rattle.std.proofs.Common.{◌≡◌, ℕ, ◌+◌, ◌<◌, Bool, true, false, ◌&&◌, List, [], ◌∷◌, ◌++◌, length, take, set, map, Option, Some, None, Result, Ok, Err, cond, arith, refl, sym, ap, ◌∙◌, length-append, append_assoc, append-nil, take_all, eq-eqb, ne_eqb, inl, inr}
use Rattle.std.specs.List.{list_all}
use Rattle.std.specs.Str.Parse.{digits_value}
use Rattle.std.proofs.lemmas.List.{take_more_set, map-append}
use Rattle.std.proofs.lemmas.Bool.{cases_eq}
use Rattle.std.proofs.lemmas.List.Folds.{list_all-append}
use Rattle.mc_script.specs.declared.command.LineFault.{LineFault}
use Rattle.mc_script.specs.declared.command.LineFault.TheVariants.{NotACommand, BadNumber}
use Rattle.mc_script.specs.Numbers.{is_number}
use Rattle.mc_script.specs.Inside.Numbers.{number_of, numbers_in}

-- After i of the words: whether they are numbers, and then their values.
pub record Counted (whole rest : List (List ℕ)) (i : ℕ) (are_good : Bool) (found : List ℕ) : Type 0 where
  pub done : List (List ℕ)
  pub first : whole ≡ done ++ rest
  pub count : length done ≡ i
  pub good : are_good ≡ list_all is_number done
  pub values : are_good ≡ true → take i found ≡ map (digits_value 10) done

-- a word that is a number has its value
number_some : (word : List ℕ) (n : ℕ) → Some n ≡ number_of word → (is_number word ≡ true) × (n ≡ digits_value 10 word)
number_some word n e = at (is_number word) refl e
  where
    at : (t : Bool) → is_number word ≡ t → Some n ≡ cond t (Some (digits_value 10 word)) None → (is_number word ≡ true) × (n ≡ digits_value 10 word)
    at true t e = (t, cc)
    at false t e = absurd (cc)

-- a word without a value is none
pub number_none : (word : List ℕ) → None ≡ number_of word → is_number word ≡ false
number_none word e = at (is_number word) refl e
  where
    at : (t : Bool) → is_number word ≡ t → None ≡ cond t (Some (digits_value 10 word)) None → is_number word ≡ false
    at true t e = absurd (cc)
    at false t e = t

-- whether all are numbers, with one word more
good_more : (done : List (List ℕ)) (word : List ℕ) (t : Bool) → is_number word ≡ t → list_all is_number (done ++ word ∷ []) ≡ (list_all is_number done && t)
good_more done word true e = list_all-append is_number done (word ∷ []) ∙ ap (λ t. list_all is_number done && (t && true)) e
good_more done word false e = list_all-append is_number done (word ∷ []) ∙ ap (λ t. list_all is_number done && (t && true)) e

-- and a test that passed
and_true : (t : Bool) → (t && true) ≡ t
and_true true = refl
and_true false = refl

-- and a test that did not pass
and_false : (t : Bool) → (t && false) ≡ false
and_false true = refl
and_false false = refl

-- one more number
pub counted_number : {whole rest more : List (List ℕ)} {i : ℕ} {are_good : Bool} {found : List ℕ} (word : List ℕ) (n : ℕ)
    → Counted whole rest i are_good found → rest ≡ word ∷ more → Some n ≡ number_of word → i < length found
    → Counted whole more (i + 1) are_good (set found i n)
counted_number {more = more} {i = i} {found = found} word n so_far is number room =
    let value = number_some word n number in
    record {
      done = so_far.done ++ word ∷ [];
      first = so_far.first ∙ ap (λ r. so_far.done ++ r) is ∙ sym (append_assoc so_far.done (word ∷ []) more);
      count = length-append so_far.done (word ∷ []) ∙ omega (arith, so_far.count);
      good = so_far.good ∙ sym (good_more so_far.done word true value.0 ∙ and_true (list_all is_number so_far.done));
      values = λ good. take_more_set found i n room ∙ ap (λ t. t ++ n ∷ []) (so_far.values good) ∙ ap (λ v. map (digits_value 10) so_far.done ++ v ∷ []) value.1 ∙ sym (map-append (digits_value 10) so_far.done (word ∷ []));
    }

-- one more word, which is no number
pub counted_other : {whole rest more : List (List ℕ)} {i : ℕ} {are_good : Bool} {found : List ℕ} (word : List ℕ)
    → Counted whole rest i are_good found → rest ≡ word ∷ more → None ≡ number_of word
    → Counted whole more (i + 1) false found
counted_other {more = more} {i = i} word so_far is none = record {
  done = so_far.done ++ word ∷ [];
  first = so_far.first ∙ ap (λ r. so_far.done ++ r) is ∙ sym (append_assoc so_far.done (word ∷ []) more);
  count = length-append so_far.done (word ∷ []) ∙ omega (arith, so_far.count);
  good = sym (good_more so_far.done word false (number_none word none) ∙ and_false (list_all is_number so_far.done));
  values = λ good. absurd (cc);
}

-- the count of the words is that of those that were read and those that are left
counted_length : {whole rest : List (List ℕ)} {i : ℕ} {are_good : Bool} {found : List ℕ} → Counted whole rest i are_good found → length whole ≡ i + length rest
counted_length {rest = rest} so_far = ap length so_far.first ∙ length-append so_far.done rest ∙ omega (arith, so_far.count)

-- another count is reported first
pub other_count : (n : ℕ) (words : List (List ℕ)) → (length words ≡ n → ⊥) → numbers_in n words ≡ Err NotACommand
unfolding numbers_in
other_count n words other = ap (λ t. cond t (cond (list_all is_number words) (Ok (map (digits_value 10) words)) (Err BadNumber)) (Err NotACommand)) (ne_eqb (length words) n other)

-- with the right count it is reported whether all are numbers
pub same_count : (n : ℕ) (words : List (List ℕ)) (t : Bool) → length words ≡ n → list_all is_number words ≡ t
    → numbers_in n words ≡ cond t (Ok (map (digits_value 10) words)) (Err BadNumber)
unfolding numbers_in
same_count n words t same good =
    ap (λ t. cond t (cond (list_all is_number words) (Ok (map (digits_value 10) words)) (Err BadNumber)) (Err NotACommand)) (eq-eqb (length words) n same)
    ∙ ap (λ t. cond t (Ok (map (digits_value 10) words)) (Err BadNumber)) good

-- the words end too early
pub too_few : {whole rest : List (List ℕ)} {i n : ℕ} {are_good : Bool} {found : List ℕ} → Counted whole rest i are_good found → rest ≡ [] → i < n
    → Err NotACommand ≡ numbers_in n whole
too_few {whole = whole} {n = n} so_far none early =
    let len = counted_length so_far in
    let zero = ap length none in
    sym (other_count n whole (λ same. absurd (omega (arith, len, zero, same, early))))

-- a word is left
pub too_many : {whole rest : List (List ℕ)} {i n : ℕ} {are_good : Bool} {found : List ℕ} → Counted whole rest i are_good found → i ≡ n → 0 < length rest
    → Err NotACommand ≡ numbers_in n whole
too_many {whole = whole} {n = n} so_far is some =
    let len = counted_length so_far in
    sym (other_count n whole (λ same. absurd (omega (arith, len, some, is, same))))

-- not all are numbers
pub not_all : {whole rest : List (List ℕ)} {i n : ℕ} {are_good : Bool} {found : List ℕ} → Counted whole rest i are_good found → i ≡ n → rest ≡ [] → are_good ≡ false
    → Err BadNumber ≡ numbers_in n whole
not_all {whole = whole} {n = n} so_far is none bad =
    let all : whole ≡ so_far.done = so_far.first ∙ ap (λ r. so_far.done ++ r) none ∙ append-nil so_far.done in
    sym (same_count n whole false (ap length all ∙ so_far.count ∙ is) (ap (list_all is_number) all ∙ sym so_far.good ∙ bad))

-- all are numbers
pub all_numbers : {whole rest : List (List ℕ)} {i n : ℕ} {are_good : Bool} {found : List ℕ} → Counted whole rest i are_good found → i ≡ n → rest ≡ [] → are_good ≡ true → length found ≡ n
    → Ok found ≡ numbers_in n whole
all_numbers {whole = whole} {i = i} {n = n} {found = found} so_far is none good size =
    let all : whole ≡ so_far.done = so_far.first ∙ ap (λ r. so_far.done ++ r) none ∙ append-nil so_far.done in
    let full : take i found ≡ found = take_all i found (omega (arith, size, is)) in
    sym (
    same_count n whole true (ap length all ∙ so_far.count ∙ is) (ap (list_all is_number) all ∙ sym so_far.good ∙ good)
    ∙ ap Ok (ap (map (digits_value 10)) all ∙ sym (so_far.values good) ∙ full)
    )

-- no word is no number more
pub numbers-nil : (n : ℕ) → numbers_in (n + 1) [] ≡ Err NotACommand
numbers-nil n = other_count (n + 1) [] (λ same. absurd (omega (arith, same)))

-- a first number and the others
unfoldable pub with_first : Result (List ℕ) LineFault → Option ℕ → Result (List ℕ) LineFault
with_first (Err fault) first = Err fault
with_first (Ok numbers) None = Err BadNumber
with_first (Ok numbers) (Some first) = Ok (first ∷ numbers)

-- one number more than n is one and then n others
pub numbers-cons : (n : ℕ) (word : List ℕ) (words : List (List ℕ)) → numbers_in (n + 1) (word ∷ words) ≡ with_first (numbers_in n words) (number_of word)
unfolding with_first
numbers-cons n word words = elim (cases_eq (length words) n) [
  | inl same ↦ counted same (is_number word) (list_all is_number words) refl refl
  | inr other ↦ other_count (n + 1) (word ∷ words) (λ e. other (omega (arith, e))) ∙ sym (ap (λ r. with_first r (number_of word)) (other_count n words other))
]
  where
    joined : (a b : Bool) (v : ℕ) (vs : List ℕ) → cond (a && b) (Ok (v ∷ vs)) (Err BadNumber) ≡ with_first (cond b (Ok vs) (Err BadNumber)) (cond a (Some v) None)
    joined true true v vs = refl
    joined true false v vs = refl
    joined false true v vs = refl
    joined false false v vs = refl

    counted : length words ≡ n → (a b : Bool) → is_number word ≡ a → list_all is_number words ≡ b → numbers_in (n + 1) (word ∷ words) ≡ with_first (numbers_in n words) (number_of word)
    counted same a b one others =
        same_count (n + 1) (word ∷ words) (a && b) (omega (arith, same)) (ap (λ t. t && list_all is_number words) one ∙ ap (λ t. a && t) others)
        ∙ joined a b (digits_value 10 word) (map (digits_value 10) words)
        ∙ sym (ap (λ r. with_first r (number_of word)) (same_count n words b same others) ∙ ap (λ t. with_first (cond b (Ok (map (digits_value 10) words)) (Err BadNumber)) (cond t (Some (digits_value 10 word)) None)) one)

-- the same, of two numbers and others
pub numbers-cons_two : (n : ℕ) (word : List ℕ) (words : List (List ℕ)) → numbers_in (n + 2) (word ∷ words) ≡ with_first (numbers_in (n + 1) words) (number_of word)
numbers-cons_two n word words = ap (λ m. numbers_in m (word ∷ words)) (omega arith) ∙ numbers-cons (n + 1) word words

pub numbers-nil_two : (n : ℕ) → numbers_in (n + 2) [] ≡ Err NotACommand
numbers-nil_two n = other_count (n + 2) [] (λ same. absurd (omega (arith, same)))
