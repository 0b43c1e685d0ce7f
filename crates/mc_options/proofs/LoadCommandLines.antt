-- The words of a command line of `mcload`.
use Rattle.std.proofs.Common.{◌≡◌, true, List, Result, refl, subst}
use Rattle.clap.specs.Words.{App, FailsBy, HasMatchesOf, Text, fault_of, found_of, is_simple, is_simple_and_free, rows_of}
use Rattle.clap.specs.declared.error.Error.{Error}
use Rattle.clap.specs.declared.parser.matches.ArgMatches.{ArgMatches}
use Rattle.mc_options.specs.Options.{MixNames}
use Rattle.mc_options.specs.LoadOptions.{load_faults, load_program, load_texts}

-- the library says all of the program's command
simple_and_free : (commands mixes : MixNames) → is_simple_and_free (load_program commands mixes) ≡ true
simple_and_free commands mixes = refl

simple : (commands mixes : MixNames) → is_simple (load_program commands mixes) ≡ true
simple commands mixes = refl

-- a parse fails by the words' faults alone
pub load_fails_by : {T : Type 0} (app : App) (commands mixes : MixNames) (words : List Text) (r : Result T Error) → app ≡ load_program commands mixes
    → (is_simple_and_free app ≡ true → FailsBy (fault_of app words) r) → FailsBy (load_faults commands mixes words) r
unfolding load_faults
load_fails_by app commands mixes words r is fails = subst (λ (a : App). is_simple_and_free a ≡ true → FailsBy (fault_of a words) r) is fails (simple_and_free commands mixes)

-- and what it finds are the texts of the options
pub load_finds : (app : App) (commands mixes : MixNames) (words : List Text) (m : ArgMatches) → app ≡ load_program commands mixes → HasMatchesOf app words m → rows_of (found_of m) ≡ load_texts commands mixes words
unfolding load_texts
load_finds app commands mixes words m is found = (subst (λ (a : App). HasMatchesOf a words m) is found (simple commands mixes)).0
