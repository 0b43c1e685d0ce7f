-- The words of a command line: what the texts of their options say.
use Rattle.std.proofs.Common.{◌≡◌, ℕ, ◌<◌, ◌≤◌, ◌^◌, ◌&&◌, ◌∙◌, Bool, true, false, List, length, Option, Some, None, Result, Err, nat_lt, nat_le, refl, ap, subst, arith}
use Rattle.std.specs.Prelude.{option_and_then, if◌then◌else◌}
use Rattle.std.specs.List.{list_all}
use Rattle.std.specs.Char.{is_ascii_digit}
use Rattle.std.specs.Str.Parse.{ParsesUnsigned, digits_value}
use Rattle.std.proofs.lemmas.Bool.Decides.{nat_tests}
use Rattle.std.proofs.lemmas.Str.Parse.{parse_digits}
use Rattle.clap.specs.Words.{App, FailsBy, HasMatchesOf, Text, fault_of, first_of, first_value, found_of, is_simple, is_simple_and_free, rows_of}
use Rattle.clap.specs.declared.error.Error.{Error}
use Rattle.clap.specs.declared.parser.matches.ArgMatches.{ArgMatches}
use Rattle.clap.specs.declared.parser.matches.Found.{Found}
use Rattle.clap.proofs.WalkLemmas.{first_value-rows}
use Rattle.mc_script.proofs.Digits.{digits_model}
use Rattle.mc_options.specs.Options.{MixNames, faults_of, number_in, whole_command, texts_of}

-- ---- numbers

-- digits that say a number above the bounds
pub number-above : (least most : ℕ) (text : Text) → most < digits_value 10 text → None ≡ number_in least most text
number-above least most text high =
    let past : nat_le (digits_value 10 text) most ≡ false = grind (arith, nat_tests) in
    go (nat_lt 0 (length text) && list_all is_ascii_digit text && nat_le least (digits_value 10 text)) _ past
  where
    go : (b c : Bool) → c ≡ false → None ≡ (if b && c then Some (digits_value 10 text) else None)
    go true c e = rw e refl
    go false c e = refl

-- a text of digits that is no number of 64 bits is above the bounds
pub number-unparsed : (least most : ℕ) (text : Text) → 0 < length text → list_all is_ascii_digit text ≡ true → most < 2 ^ 64 → ParsesUnsigned {E = ℕ} 64 10 text (Err 0) → None ≡ number_in least most text
number-unparsed least most text some digits small parses =
    let failed : Result ℕ ℕ = Err 0 in
    let large : digits_value 10 text < 2 ^ 64 → ⊥ = λ lt. parse_digits digits_model 64 text failed parses digits (some, lt) in
    let past : most < digits_value 10 text = grind arith in
    number-above least most text past

-- a number is between its bounds
pub number-bounds : (least most n : ℕ) (o : Option Text) → Some n ≡ option_and_then (number_in least most) o → (least ≤ n) × (n ≤ most)
number-bounds least most n None e = absurd (cc)
number-bounds least most n (Some text) e =
    go (nat_lt 0 (length text) && list_all is_ascii_digit text) (nat_le least (digits_value 10 text)) (nat_le (digits_value 10 text) most) refl refl e
  where
    go : (b c d : Bool) → nat_le least (digits_value 10 text) ≡ c → nat_le (digits_value 10 text) most ≡ d
        → Some n ≡ (if b && c && d then Some (digits_value 10 text) else None) → (least ≤ n) × (n ≤ most)
    go true true true p q e = let is : n ≡ digits_value 10 text = cc in (grind (arith, nat_tests), grind (arith, nat_tests))
    go true true false p q e = absurd (cc)
    go true false d p q e = absurd (cc)
    go false c d p q e = absurd (cc)

-- ---- the texts of the options

-- what is made of the text that a getter gives is made of the option's text
pub text-given : {B : Type 0} (g : Text → Option B) (f : Found) (id text : Text) → Some text ≡ first_value f id → g text ≡ option_and_then g (first_of id (rows_of f))
text-given g f id text is = ap (option_and_then g) (is ∙ first_value-rows f id)

pub text-none : {B : Type 0} (g : Text → Option B) (f : Found) (id : Text) → None ≡ first_value f id → None ≡ option_and_then g (first_of id (rows_of f))
text-none g f id is = ap (option_and_then g) (is ∙ first_value-rows f id)

-- ---- the parse

-- the library says all of the program's command
pub simple_and_free : (name : Text) (mixes : MixNames) → is_simple_and_free (whole_command name mixes) ≡ true
simple_and_free name mixes = refl

pub simple : (name : Text) (mixes : MixNames) → is_simple (whole_command name mixes) ≡ true
simple name mixes = refl

-- a parse fails by the words' faults alone
pub fails_by : {T : Type 0} (app : App) (name : Text) (mixes : MixNames) (words : List Text) (r : Result T Error) → app ≡ whole_command name mixes
    → (is_simple_and_free app ≡ true → FailsBy (fault_of app words) r) → FailsBy (faults_of name mixes words) r
unfolding faults_of
fails_by app name mixes words r is fails =
    subst (λ (a : App). is_simple_and_free a ≡ true → FailsBy (fault_of a words) r) is fails (simple_and_free name mixes)

-- and what it finds are the texts of the options
pub finds : (app : App) (name : Text) (mixes : MixNames) (words : List Text) (m : ArgMatches) → app ≡ whole_command name mixes → HasMatchesOf app words m
    → rows_of (found_of m) ≡ texts_of name mixes words
unfolding texts_of
finds app name mixes words m is found = (subst (λ (a : App). HasMatchesOf a words m) is found (simple name mixes)).0
