-- What the words of a command line ask of `mcload`; the first of them is the program's own name, another is `run`.
use Rattle.std.specs.Prelude.{◌≡◌, ◌⊎◌, Bool, true, false, pos, List, [], ◌∷◌, Option, Some, None, Result, map, codes, option_and_then, MatchResult}
use Rattle.std.specs.Str.{bytes_eq}
use Rattle.clap.specs.Words.{App, IsAmong, Kinds, Row, Rule, Text, fault_of, first_of, kind_of, matches_of, new_app, new_rule}
use Rattle.clap.specs.Simple.{on_top}
use Rattle.clap.specs.declared.builder.action.ArgAction.TheVariants as action
use Rattle.clap.specs.declared.builder.value_parser.ValueParser.TheVariants as parser
use Rattle.clap.specs.declared.error.Error.{Error}
use Rattle.clap.specs.declared.error.kind.ErrorKind.{ErrorKind}
use Rattle.clap.specs.declared.error.kind.ErrorKind.TheVariants as kind
use Rattle.mc_options.specs.Options.{AreMixes, MixNames, SaysShape, bounds, number_in, option, others, sizes, with_rules}
use Rattle.mc_options.specs.declared.load_options.LoadOptions.{LoadOptions}

-- ---- the options

-- the name that the first argument takes, wherever it is in memory
abbrev pub AreCommands : MixNames → Type 0
AreCommands names = map (λ name. name.now) names.now ≡ codes "run" ∷ []

-- the first argument, which has to be there
abbrev pub command_rule : MixNames → Rule
command_rule names = record (new_rule (codes "command")) { parser = Some (parser.Names names); required = true }

-- the options that both programs have, with the defaults of `mcload`
abbrev pub load_sizes : List Rule
load_sizes = sizes (codes "1024") (codes "3072") (codes "8192")

abbrev pub load_bounds : List Rule
load_bounds = bounds (codes "5") (codes "8")

abbrev pub load_others : MixNames → List Rule
load_others mixes = others mixes (codes "fmix") (codes "3")

-- the options of `mcload` that have values and that `mcstep` has not
abbrev pub load_draws : List Rule
load_draws =
    option (codes "lookups") (parser.Signed (pos 0) (pos 1048576)) (codes "2000")
    ∷ option (codes "many") (parser.Signed (pos 1) (pos 64)) (codes "1")
    ∷ option (codes "shards") (parser.Signed (pos 0) (pos 4294967295)) (codes "1")
    ∷ option (codes "writers") (parser.Signed (pos 0) (pos 4294967295)) (codes "1")
    ∷ option (codes "writes") (parser.Signed (pos 0) (pos 1048576)) (codes "2000")
    ∷ option (codes "keys") (parser.Unsigned 0 18446744073709551615) (codes "64")
    ∷ option (codes "seed") (parser.Unsigned 0 18446744073709551615) (codes "1")
    ∷ []

-- an option without a value
abbrev pub flag_rule : Text → Rule
flag_rule name = record (new_rule name) { long = Some name; action = Some action.SetTrue }

abbrev pub flags : List Rule
flags = flag_rule (codes "scan-resistant") ∷ flag_rule (codes "histogram") ∷ []

-- the command `mcload`, which has a version, with its first argument and without its options
abbrev pub mcload_command : MixNames → App
mcload_command commands = with_rules (on_top (λ s. record s { has_version = true }) (new_app (codes "mcload"))) (command_rule commands ∷ [])

abbrev pub load_program : MixNames → MixNames → App
load_program commands mixes =
    with_rules (with_rules (with_rules (with_rules (with_rules (mcload_command commands) load_sizes) load_bounds) (load_others mixes)) load_draws) flags

-- ---- what their texts say

-- an option without a value is given
abbrev pub is_given : Option Text → Bool
is_given None = false
is_given (Some text) = bytes_eq text (codes "true")

pub record SaysLoad (rows : List Row) (o : LoadOptions) : Type 0 where
  pub shape : SaysShape rows o.shape
  pub readers : option_and_then (number_in 0 4294967295) (first_of (codes "readers") rows) ≡ Some o.readers
  pub lookups : option_and_then (number_in 0 1048576) (first_of (codes "lookups") rows) ≡ Some o.lookups
  pub many : option_and_then (number_in 1 64) (first_of (codes "many") rows) ≡ Some o.many
  pub shards : option_and_then (number_in 0 4294967295) (first_of (codes "shards") rows) ≡ Some o.shards
  pub writers : option_and_then (number_in 0 4294967295) (first_of (codes "writers") rows) ≡ Some o.writers
  pub writes : option_and_then (number_in 0 1048576) (first_of (codes "writes") rows) ≡ Some o.writes
  pub keys : option_and_then (number_in 0 18446744073709551615) (first_of (codes "keys") rows) ≡ Some o.keys
  pub seed : option_and_then (number_in 0 18446744073709551615) (first_of (codes "seed") rows) ≡ Some o.seed
  pub scan_resistant : o.scan_resistant ≡ is_given (first_of (codes "scan-resistant") rows)
  pub histogram : o.histogram ≡ is_given (first_of (codes "histogram") rows)

-- ---- what the words ask for

-- the kinds of the words' first fault; none if they are taken
unfoldable pub load_faults : MixNames → MixNames → List Text → Kinds
load_faults commands mixes words = fault_of (load_program commands mixes) words

-- the options with their texts
unfoldable pub load_texts : MixNames → MixNames → List Text → List Row
load_texts commands mixes words = matches_of (load_program commands mixes) words

-- the words are taken, and say these options
abbrev pub GivesLoad : List Text → LoadOptions → Type 0
GivesLoad words o =
    (commands : MixNames) × (mixes : MixNames) × AreCommands commands × AreMixes mixes × (load_faults commands mixes words ≡ []) × SaysLoad (load_texts commands mixes words) o

-- the words are taken, but some text doesn't say a value of its option, as a number with a sign
abbrev pub SaysNoLoad : List Text → Type 0
SaysNoLoad words =
    (commands : MixNames) × (mixes : MixNames) × AreCommands commands × AreMixes mixes × (load_faults commands mixes words ≡ []) × ((o : LoadOptions) → SaysLoad (load_texts commands mixes words) o → ⊥)

-- the words have a fault of this kind
abbrev pub HasLoadFault : List Text → ErrorKind → Type 0
HasLoadFault words k = (commands : MixNames) × (mixes : MixNames) × AreCommands commands × AreMixes mixes × IsAmong k (load_faults commands mixes words)

-- why no options are read: memory was short, and no clause can say more of that, or the words have a fault of this kind
abbrev pub IsLoadUnread : List Text → ErrorKind → Type 0
IsLoadUnread words k = (k ≡ kind.OutOfMemory) ⊎ (HasLoadFault words k ⊎ ((k ≡ kind.ValueValidation) × SaysNoLoad words))

-- the options that the words say, or why there are none
abbrev pub ReadsLoad : List Text → Result LoadOptions Error → Type 0
ReadsLoad words r = MatchResult r (GivesLoad words) (λ e. IsLoadUnread words (kind_of e))
