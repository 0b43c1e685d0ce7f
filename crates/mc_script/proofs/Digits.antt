-- Words of digits, and what parsing them gives.
use Rattle.std.proofs.Common.{◌≡◌, ℕ, zero, suc, ◌<◌, Bool, true, false, List, [], ◌∷◌, length, ◌^◌, slice_index, Result, Ok, Err, Some, None, cond, nat_lt, ◌&&◌, rules, arith, refl, sym, ap, ◌∙◌}
use Rattle.std.specs.List.{list_all}
use Rattle.std.specs.Char.{is_ascii_digit}
use Rattle.std.specs.Str.Parse.{digits_value}
use Rattle.std.specs.Str.{IsUtf8}
use Rattle.std.specs.Result.{OkIff, result_ok}
use Rattle.std.specs.Str.Parse.{ParsesUnsigned}
use Rattle.std.proofs.lemmas.Str.{IsUtf8-from_ascii}
use Rattle.std.proofs.lemmas.Str.Parse.{IsNumeralModel, numerals_by_value, parse_digits}
use Rattle.std.proofs.lemmas.Bool.Decides.{nat_tests}

-- digits are read by their value
pub digits_model : IsNumeralModel (λ ds. list_all is_ascii_digit ds ≡ true) (digits_value 10)
digits_model = numerals_by_value (λ ds. list_all is_ascii_digit ds ≡ true) (search rules)

-- a digit is an ASCII byte
ascii_digit-small : (d : ℕ) → is_ascii_digit d ≡ true → d < 128
ascii_digit-small d e = grind (arith, nat_tests)

-- both of two tests passed
and_both : (a b : Bool) → (a && b) ≡ true → (a ≡ true) × (b ≡ true)
and_both true b e = (refl, e)
and_both false b e = absurd (cc)

-- digits are ASCII bytes
digits_small : (ds : List ℕ) → list_all is_ascii_digit ds ≡ true → (i : ℕ) → slice_index ds i < 128
digits_small [] e i = omega arith
digits_small (d ∷ ds) e zero = ascii_digit-small d (and_both _ _ e).0
digits_small (d ∷ ds) e (suc i) = digits_small ds (and_both (is_ascii_digit d) _ e).1 i

-- digits are text
pub all_digits-utf8 : (ds : List ℕ) → list_all is_ascii_digit ds ≡ true → IsUtf8 ds
all_digits-utf8 ds e = IsUtf8-from_ascii ds (digits_small ds e)

-- what parsing digits gives
pub parsed_digits : {E : Type 0} (ds : List ℕ) (r : Result ℕ E) → 0 < length ds → list_all is_ascii_digit ds ≡ true → ParsesUnsigned 64 10 ds r
    → result_ok r ≡ cond (nat_lt (digits_value 10 ds) (2 ^ 64)) (Some (digits_value 10 ds)) None
parsed_digits {E = E} ds r some all parses = at r (parse_digits digits_model 64 ds r parses all)
  where
    at : (r : Result ℕ E) → OkIff r ((0 < length ds) × (digits_value 10 ds < 2 ^ 64)) (digits_value 10 ds) → result_ok r ≡ cond (nat_lt (digits_value 10 ds) (2 ^ 64)) (Some (digits_value 10 ds)) None
    at (Ok x) h = let small = h.0.1 in let t : nat_lt (digits_value 10 ds) (2 ^ 64) ≡ true = grind (arith, nat_tests) in ap Some h.1 ∙ sym (ap (λ t. cond t (Some (digits_value 10 ds)) None) t)
    at (Err e) h = let large : digits_value 10 ds < 2 ^ 64 → ⊥ = λ lt. h (some, lt) in let t : nat_lt (digits_value 10 ds) (2 ^ 64) ≡ false = grind (arith, nat_tests) in sym (ap (λ t. cond t (Some (digits_value 10 ds)) None) t)
