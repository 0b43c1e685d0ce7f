-- What the words of a command line ask of `mcstep` and `mctrace`; the first of them is the program's own name.
-- The library `clap` defines how words are read: `fault_of` gives the kind of their first fault, and `matches_of` the
-- text of each option, which is its default's if the option isn't given.
use Rattle.std.specs.Prelude.{◌≡◌, ◌≢◌, ◌⊎◌, ◌&&◌, ℕ, true, pos, List, [], ◌∷◌, Option, Some, None, Result, map, length, codes, fold, nat_le, nat_lt, option_and_then, if◌then◌else◌, MatchResult}
use Rattle.std.specs.List.{list_all}
use Rattle.std.specs.Borrow.{Bor}
use Rattle.std.specs.Char.{is_ascii_digit}
use Rattle.std.specs.Str.{bytes_eq}
use Rattle.std.specs.Str.Parse.{digits_value}
use Rattle.clap.specs.Words.{App, IsAmong, Kinds, Row, Rule, Text, fault_of, first_of, kind_of, matches_of, new_app, new_rule, with_rule}
use Rattle.clap.specs.Simple.{on_top}
use Rattle.clap.specs.declared.builder.value_parser.ValueParser.{ValueParser}
use Rattle.clap.specs.declared.builder.value_parser.ValueParser.TheVariants as parser
use Rattle.clap.specs.declared.error.Error.{Error}
use Rattle.clap.specs.declared.error.kind.ErrorKind.{ErrorKind}
use Rattle.clap.specs.declared.error.kind.ErrorKind.TheVariants as kind
use Rattle.mc_words.specs.declared.shape.Shape.{Shape}
use Rattle.mc_words.specs.declared.mix.Mix.{Mix}
use Rattle.mc_words.specs.declared.mix.Mix.TheVariants.{Plain, Fmix}
use Rattle.mc_options.specs.declared.options.Options.{Options}

-- ---- the options

-- the names that `--mix` takes, wherever they are in memory
abbrev pub MixNames : Type 0
MixNames = Bor (List (Bor Text))

abbrev pub AreMixes : MixNames → Type 0
AreMixes names = map (λ name. name.now) names.now ≡ codes "plain" ∷ codes "fmix" ∷ []

-- an option `--name` with one value, and its default
abbrev pub option : Text → ValueParser → Text → Rule
option name takes default = record (new_rule name) { long = Some name; parser = Some takes; defaults = default ∷ [] }

-- the options that both programs have, each with its default
abbrev pub sizes : Text → Text → Text → List Rule
sizes buckets items stripes =
    option (codes "buckets") (parser.Signed (pos 0) (pos 4294967295)) buckets
    ∷ option (codes "items") (parser.Signed (pos 0) (pos 4294967295)) items
    ∷ option (codes "stripes") (parser.Signed (pos 0) (pos 4294967295)) stripes
    ∷ []

abbrev pub bounds : Text → Text → List Rule
bounds depth tries =
    option (codes "depth") (parser.Signed (pos 0) (pos 255)) depth
    ∷ option (codes "tries") (parser.Signed (pos 0) (pos 255)) tries
    ∷ option (codes "limit") (parser.Unsigned 0 18446744073709551615) (codes "4611686018427387904")
    ∷ []

abbrev pub others : MixNames → Text → Text → List Rule
others mixes mix readers =
    option (codes "mix") (parser.Names mixes) mix
    ∷ option (codes "readers") (parser.Signed (pos 0) (pos 4294967295)) readers
    ∷ []

-- with the defaults of `mcstep`
abbrev pub step_sizes : List Rule
step_sizes = sizes (codes "4") (codes "16") (codes "1")

abbrev pub step_bounds : List Rule
step_bounds = bounds (codes "2") (codes "2")

abbrev pub step_others : MixNames → List Rule
step_others mixes = others mixes (codes "plain") (codes "2")

-- the option that `mcload` doesn't have
abbrev pub words_rule : Rule
words_rule = option (codes "words") (parser.Signed (pos 1) (pos 2)) (codes "1")

-- the command with these options after its own
abbrev pub with_rules : App → List Rule → App
with_rules app rules = fold with_rule app rules

-- the command of a program by its name, which has a version, without its options
abbrev pub named_command : Text → App
named_command name = on_top (λ s. record s { has_version = true }) (new_app name)

abbrev pub whole_command : Text → MixNames → App
whole_command name mixes =
    with_rules (with_rules (with_rules (with_rules (named_command name) step_sizes) step_bounds) (step_others mixes)) (words_rule ∷ [])

-- ---- what their texts say

-- the number that decimal digits say, if it is between the bounds
abbrev pub number_in : ℕ → ℕ → Text → Option ℕ
number_in least most text =
    if nat_lt 0 (length text) && list_all is_ascii_digit text && nat_le least (digits_value 10 text) && nat_le (digits_value 10 text) most then Some (digits_value 10 text)
    else None

abbrev pub mix_in : Text → Option Mix
mix_in text = if bytes_eq text (codes "fmix") then Some Fmix else if bytes_eq text (codes "plain") then Some Plain else None

-- the texts of the options say this shape
pub record SaysShape (rows : List Row) (sh : Shape) : Type 0 where
  pub buckets : option_and_then (number_in 0 4294967295) (first_of (codes "buckets") rows) ≡ Some sh.buckets
  pub items : option_and_then (number_in 0 4294967295) (first_of (codes "items") rows) ≡ Some sh.items
  pub stripes : option_and_then (number_in 0 4294967295) (first_of (codes "stripes") rows) ≡ Some sh.stripes
  pub depth : option_and_then (number_in 0 255) (first_of (codes "depth") rows) ≡ Some sh.depth
  pub tries : option_and_then (number_in 0 255) (first_of (codes "tries") rows) ≡ Some sh.tries
  pub limit : option_and_then (number_in 0 18446744073709551615) (first_of (codes "limit") rows) ≡ Some sh.limit
  pub mix : option_and_then mix_in (first_of (codes "mix") rows) ≡ Some sh.mix

-- and these values
pub record Says (rows : List Row) (o : Options) : Type 0 where
  pub shape : SaysShape rows o.shape
  pub readers : option_and_then (number_in 0 4294967295) (first_of (codes "readers") rows) ≡ Some o.readers
  pub words : option_and_then (number_in 1 2) (first_of (codes "words") rows) ≡ Some o.words

-- ---- what the words ask of the program of a name

-- the kinds of the words' first fault; none if they are taken
unfoldable pub faults_of : Text → MixNames → List Text → Kinds
faults_of name mixes words = fault_of (whole_command name mixes) words

-- the options with their texts
unfoldable pub texts_of : Text → MixNames → List Text → List Row
texts_of name mixes words = matches_of (whole_command name mixes) words

-- the words are taken, and say these options
abbrev pub GivesOptions : Text → List Text → Options → Type 0
GivesOptions name words o = (mixes : MixNames) × AreMixes mixes × (faults_of name mixes words ≡ []) × Says (texts_of name mixes words) o

-- the words are taken, but some text doesn't say a value of its option, as a number with a sign
abbrev pub SaysNothing : Text → List Text → Type 0
SaysNothing name words =
    (mixes : MixNames) × AreMixes mixes × (faults_of name mixes words ≡ []) × ((o : Options) → Says (texts_of name mixes words) o → ⊥)

-- the words have a fault of this kind
abbrev pub HasFault : Text → List Text → ErrorKind → Type 0
HasFault name words k = (mixes : MixNames) × AreMixes mixes × IsAmong k (faults_of name mixes words)

-- the words ask for help
abbrev pub AsksHelp : Text → List Text → Type 0
AsksHelp name words = HasFault name words kind.DisplayHelp

-- the words ask for the version
abbrev pub AsksVersion : Text → List Text → Type 0
AsksVersion name words = HasFault name words kind.DisplayVersion

-- the words have another fault
abbrev pub IsFaulty : Text → List Text → Type 0
IsFaulty name words =
    ((k : ErrorKind) × (k ≢ kind.DisplayHelp) × (k ≢ kind.DisplayVersion) × HasFault name words k) ⊎ SaysNothing name words

-- why no options are read: memory was short, and no clause can say more of that, or the words have a fault of this kind
abbrev pub IsUnread : Text → List Text → ErrorKind → Type 0
IsUnread name words k = (k ≡ kind.OutOfMemory) ⊎ (HasFault name words k ⊎ ((k ≡ kind.ValueValidation) × SaysNothing name words))

-- the options that the words say, or why there are none
abbrev pub Reads : Text → List Text → Result Options Error → Type 0
Reads name words r = MatchResult r (GivesOptions name words) (λ e. IsUnread name words (kind_of e))
