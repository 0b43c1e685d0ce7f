-- What is read of a script and written for it, and where and why it stops.
use Rattle.std.specs.Prelude.{◌≡◌, ℕ, ◌+◌, ◌-◌, ◌^◌, ◌<◌, ◌≤◌, ◌⊎◌, List, [], ◌∷◌, ◌++◌, length, take, Option, Some, None, Bool, true, Result, Ok, Err}
use Rattle.std.specs.Io.KnownBytes.{Keeps, Appends}
use Rattle.mc_words.specs.declared.shape.Shape.{Shape}
use Rattle.mc_words.specs.Readers.{HasReaders}
use Rattle.mc_script.specs.declared.command.Command.{Command}
use Rattle.mc_script.specs.declared.command.LineFault.{LineFault}
use Rattle.mc_script.specs.Commands.{command_in}
use Rattle.mc_script.specs.Lines.{lines_of, after_lines, GivesLine}
use Rattle.mc_script.specs.declared.line.ReadFault.{ReadFault}
use Rattle.mc_script.specs.declared.line.ReadFault.TheVariants as read
use Rattle.mc_replay.specs.declared.fault.Fault.{Fault}
use Rattle.mc_replay.specs.declared.fault.Fault.TheVariants.{ReadFailed, NoMemory, TooLong, NoSuchReader, WriteFailed}
use Rattle.mc_replay.specs.declared.fault.Stop.{Stop}
use Rattle.mc_replay.specs.Faults.{fault_of}
use Rattle.mc_replay.specs.Replay.{Scene, first_scene, CommandDoes}

-- what is written for what a line says, or its fault
abbrev pub SaidDoes : {V : ℕ} → Scene V → Result (Option (Command V)) LineFault → List ℕ → Option Fault → Scene V → Type 0
SaidDoes s (Ok None) text fault t = (text ≡ []) × (fault ≡ None) × (t ≡ s)
SaidDoes s (Ok (Some c)) text fault t = CommandDoes s c text fault t
SaidDoes s (Err f) text fault t = (text ≡ []) × (fault ≡ Some (fault_of f)) × (t ≡ s)

-- more bytes than a line may have, or too many lines before it
abbrev pub IsTooLong : ℕ → List ℕ → Type 0
IsTooLong before line = (4096 < length line) ⊎ (2 ^ 40 ≤ before)

-- what is written for a line after `before` others, or its fault, and what it leaves
abbrev pub LineDoes : (V : ℕ) → ℕ → Scene V → List ℕ → List ℕ → Option Fault → Scene V → Type 0
LineDoes V before s line text fault t =
    (IsTooLong before line × (fault ≡ Some TooLong) × (text ≡ []) × (t ≡ s)) ⊎
    ((IsTooLong before line → ⊥) × SaidDoes s (command_in V line) text fault t)

-- what is written for some lines, of which none is refused
abbrev pub Plays : (V : ℕ) → ℕ → Scene V → List (List ℕ) → List ℕ → Scene V → Type 0
Plays V before s [] text t = (text ≡ []) × (t ≡ s)
Plays V before s (line ∷ lines) text t =
    (m : Scene V) × (first : List ℕ) × (rest : List ℕ) × LineDoes V before s line first None m × Plays V (before + 1) m lines rest t × (text ≡ first ++ rest)

-- the lines before this one were played from the start, and these are left
pub record Stopped (V : ℕ) (start : Scene V) (lines : List (List ℕ)) (line : ℕ) (left : List (List ℕ)) (text : List ℕ) (s : Scene V) : Type 0 where
  pub done : List (List ℕ)
  pub parts : lines ≡ done ++ left
  pub count : length done + 1 ≡ line
  pub played : Plays V 0 start done text s

-- the line was not done: the answers of those before it were written
abbrev pub StopsUndone : (V : ℕ) → Scene V → List (List ℕ) → Option (List ℕ) → Option (List ℕ) → ℕ → Type 0
StopsUndone V start lines old new line =
    (left : List (List ℕ)) × (text : List ℕ) × (s : Scene V) × Stopped V start lines line left text s × Appends old new text

-- only a beginning of the line's own answer was written
abbrev pub StopsUnwritten : (V : ℕ) → Scene V → List (List ℕ) → Option (List ℕ) → Option (List ℕ) → ℕ → Type 0
StopsUnwritten V start lines old new line =
    (own : List ℕ) × (left : List (List ℕ)) × (text : List ℕ) × (s : Scene V) × (t : Scene V) × (answer : List ℕ) × (fault : Option Fault) × (n : ℕ) ×
    Stopped V start lines line (own ∷ left) text s × LineDoes V (line - 1) s own answer fault t × (n < length answer) × Appends old new (text ++ take n answer)

-- the line is refused, after what it had answered
abbrev pub StopsRefused : (V : ℕ) → Scene V → List (List ℕ) → Option (List ℕ) → Option (List ℕ) → ℕ → Fault → Type 0
StopsRefused V start lines old new line fault =
    (own : List ℕ) × (left : List (List ℕ)) × (text : List ℕ) × (s : Scene V) × (t : Scene V) × (answer : List ℕ) ×
    Stopped V start lines line (own ∷ left) text s × LineDoes V (line - 1) s own answer (Some fault) t × Appends old new (text ++ answer)

-- where and why a replay stopped
abbrev pub StopsBy : (V : ℕ) → Scene V → List (List ℕ) → Option (List ℕ) → Option (List ℕ) → ℕ → Fault → Type 0
StopsBy V start lines old new line ReadFailed = StopsUndone V start lines old new line
StopsBy V start lines old new line NoMemory = StopsUndone V start lines old new line
StopsBy V start lines old new line WriteFailed = StopsUnwritten V start lines old new line
StopsBy V start lines old new line fault = StopsRefused V start lines old new line fault

-- no line was read, and nothing written: the number of readers is refused, or there is no memory for the table
abbrev pub StopsBefore : ℕ → Option (List ℕ) → Option (List ℕ) → Fault → Type 0
StopsBefore readers old new NoSuchReader = (HasReaders readers → ⊥) × Keeps old new
StopsBefore readers old new NoMemory = HasReaders readers × Keeps old new
StopsBefore readers old new fault = ⊥

-- what a replay of these lines writes, and where it stops; line 0 is that before any line
abbrev pub Replays : (V : ℕ) → Shape → ℕ → List (List ℕ) → Option (List ℕ) → Option (List ℕ) → Result (Unit {0}) Stop → Type 0
Replays V sh readers lines old new (Ok u) = HasReaders readers × ((text : List ℕ) × (t : Scene V) × Plays V 0 (first_scene V sh readers) lines text t × Appends old new text)
Replays V sh readers lines old new (Err stop) =
    ((stop.line ≡ 0) × StopsBefore readers old new stop.fault) ⊎
    ((0 < stop.line) × HasReaders readers × StopsBy V (first_scene V sh readers) lines old new stop.line stop.fault)

-- of these bytes one line was read, with this result: what is left is what the reading of a line leaves
abbrev pub ReadsLine : List ℕ → Option (List ℕ) → Result Bool ReadFault → Type 0
ReadsLine bytes rest r = (line : List ℕ) × GivesLine (Some bytes) rest line r

-- what is read for the line at which a script stops: a beginning of it, as much as shows that it is too long, or the line and nothing
-- after it
abbrev pub ReadsStopped : List ℕ → Option (List ℕ) → Fault → Type 0
ReadsStopped bytes rest ReadFailed = ReadsLine bytes rest (Err read.ReadFailed)
ReadsStopped bytes rest TooLong = ReadsLine bytes rest (Err read.TooLong) ⊎ ReadsLine bytes rest (Ok true)
ReadsStopped bytes rest fault = ReadsLine bytes rest (Ok true)

-- what a replay of these bytes reads: all, or nothing, or the lines before the one at which it stops and what is read for that one
abbrev pub ReadsScript : List ℕ → Option (List ℕ) → Result (Unit {0}) Stop → Type 0
ReadsScript bytes rest (Ok u) = rest ≡ Some []
ReadsScript bytes rest (Err stop) =
    ((stop.line ≡ 0) × (rest ≡ Some bytes)) ⊎
    ((0 < stop.line) × ReadsStopped (after_lines (stop.line - 1) bytes) rest stop.fault)

-- what is read and written, if the bytes of the script are known
abbrev pub ReplaysKnown : (V : ℕ) → Shape → ℕ → Option (List ℕ) → Option (List ℕ) → Option (List ℕ) → Option (List ℕ) → Result (Unit {0}) Stop → Type 0
ReplaysKnown V sh readers None rest old new r = Unit {0}
ReplaysKnown V sh readers (Some bytes) rest old new r = ReadsScript bytes rest r × Replays V sh readers (lines_of bytes) old new r
