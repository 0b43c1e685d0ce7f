-- What a program does with its streams, and what it reports.
use Rattle.std.specs.Prelude.{◌≡◌, ◌≢◌, ℕ, ◌⊎◌, ◌++◌, ◌∷◌, List, [], take, codes, Option}
use Rattle.std.specs.Io.KnownBytes.{Keeps, Appends}
use Rattle.clap.specs.declared.error.kind.ErrorKind.{ErrorKind}
use Rattle.clap.specs.declared.error.kind.ErrorKind.TheVariants as kind
use Rattle.mc_options.specs.Statuses.{failed, refused}

-- the bytes that a reader has left, or that a writer holds, if they are known: before a run and after it
pub record Stream : Type 0 where
  pub old : Option (List ℕ)
  pub new : Option (List ℕ)

abbrev pub stream : Option (List ℕ) → Option (List ℕ) → Stream
stream old new = record { old = old; new = new }

-- nothing was read of it, or written to it
abbrev pub IsUntouched : Stream → Type 0
IsUntouched s = Keeps s.old s.new

-- a line was written or, if a write failed, a beginning of it
abbrev pub Tells : Stream → List ℕ → Type 0
Tells errors text = (n : ℕ) × Appends errors.old errors.new (take n (text ++ 10 ∷ []))

-- the help or the version is printed; no clause specifies its text
abbrev pub Prints : Stream → ℕ → Type 0
Prints errors status = IsUntouched errors × ((status ≡ 0) ⊎ (status ≡ failed))

-- memory was short, and nothing is written but that line
abbrev pub IsShort : Stream → Stream → ℕ → Type 0
IsShort output errors status = IsUntouched output × Tells errors (codes "refused: no memory") × (status ≡ failed)

-- what comes of words that give no options, by the kind of their fault; the text of a fault is the library's
abbrev pub TellsFault : ErrorKind → Stream → Stream → ℕ → Type 0
TellsFault k output errors status =
    ((k ≡ kind.OutOfMemory) × IsShort output errors status) ⊎
    ((((k ≡ kind.DisplayHelp) ⊎ (k ≡ kind.DisplayVersion)) × Prints errors status) ⊎
    ((k ≢ kind.OutOfMemory) × (k ≢ kind.DisplayHelp) × (k ≢ kind.DisplayVersion) × IsUntouched output × (status ≡ refused)))
