-- What one line of a replay does, as its parts hand it on.
use Rattle.std.specs.Prelude.{◌≡◌, ℕ, ◌<◌, Bool, true, false, List, ◌++◌, length, take, Option, Some, None, Result, Ok, Err}
use Rattle.std.specs.Io.BufRead.{first_line}
use Rattle.std.specs.Io.KnownBytes.{Keeps, Appends}
use Rattle.mc_script.specs.Lines.{lines_of, after_lines}
use Rattle.mc_replay.specs.declared.fault.Fault.{Fault}
use Rattle.mc_replay.specs.declared.fault.Fault.TheVariants.{ReadFailed, NoMemory, WriteFailed}
use Rattle.mc_replay.specs.Replay.{Scene}
use Rattle.mc_replay.specs.Scripts.{LineDoes, Plays, ReadsLine, ReadsStopped}
use Rattle.mc_replay.specs.Inside.Players.{DoneAs}

-- what was done for a line, and the text of its answers
abbrev pub DoesLine : (V : ℕ) → ℕ → Scene V → List ℕ → List ℕ → Scene V → Result (Unit {0}) Fault → Type 0
DoesLine V before s line text t r = DoneAs (LineDoes V before s line) text t r

-- memory ran out
abbrev pub is_wanting : Result (Unit {0}) Fault → Bool
is_wanting (Err NoMemory) = true
is_wanting r = false

-- what was done and written for the next line of these bytes
abbrev pub PlaysLine : (V : ℕ) → ℕ → Scene V → Scene V → List ℕ → Option (List ℕ) → Option (List ℕ) → Result Bool Fault → Type 0
PlaysLine V before s t bytes old new (Ok false) = Keeps old new
PlaysLine V before s t bytes old new (Ok true) =
    (text : List ℕ) × LineDoes V before s (first_line bytes) text None t × Appends old new text
PlaysLine V before s t bytes old new (Err ReadFailed) = Keeps old new
PlaysLine V before s t bytes old new (Err NoMemory) = Keeps old new
PlaysLine V before s t bytes old new (Err WriteFailed) =
    (text : List ℕ) × (fault : Option Fault) × (n : ℕ) × LineDoes V before s (first_line bytes) text fault t × (n < length text) × Appends old new (take n text)
PlaysLine V before s t bytes old new (Err fault) =
    (text : List ℕ) × LineDoes V before s (first_line bytes) text (Some fault) t × Appends old new text

-- what was read for it
abbrev pub ReadsNextLine : List ℕ → Option (List ℕ) → Result Bool Fault → Type 0
ReadsNextLine bytes rest (Ok more) = ReadsLine bytes rest (Ok more)
ReadsNextLine bytes rest (Err fault) = ReadsStopped bytes rest fault

abbrev pub PlaysKnown : (V : ℕ) → ℕ → Scene V → Scene V → Option (List ℕ) → Option (List ℕ) → Option (List ℕ) → Option (List ℕ) → Result Bool Fault → Type 0
PlaysKnown V before s t None rest old new r = Unit {0}
PlaysKnown V before s t (Some bytes) rest old new r = ReadsNextLine bytes rest r × PlaysLine V before s t bytes old new r

-- after `before` lines that were not refused: which they are, and what was written
pub record SoFar (V : ℕ) (start : Scene V) (lines left : List (List ℕ)) (old new : Option (List ℕ)) (before : ℕ) (s : Scene V) : Type 0 where
  pub done : List (List ℕ)
  pub text : List ℕ
  pub parts : lines ≡ done ++ left
  pub count : length done ≡ before
  pub played : Plays V 0 start done text s
  pub written : Appends old new text

abbrev pub KnownSoFar : (V : ℕ) → Scene V → Option (List ℕ) → Option (List ℕ) → Option (List ℕ) → Option (List ℕ) → ℕ → Scene V → Type 0
KnownSoFar V start None left old new before s = Unit {0}
KnownSoFar V start (Some all) None old new before s = ⊥
KnownSoFar V start (Some all) (Some left) old new before s = (left ≡ after_lines before all) × SoFar V start (lines_of all) (lines_of left) old new before s
