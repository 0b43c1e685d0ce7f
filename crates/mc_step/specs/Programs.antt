-- What the program `mcstep` reads, writes and reports, and its exit status.
use Rattle.std.specs.Prelude.{◌≡◌, ℕ, ◌⊎◌, ◌++◌, List, codes, Result, Ok, Err}
use Rattle.mc_words.specs.declared.shape.Shape.{Shape}
use Rattle.mc_words.specs.declared.shape.ShapeError.{ShapeError}
use Rattle.mc_words.specs.Shapes.{IsShape, RefusesShape}
use Rattle.mc_replay.specs.declared.fault.Fault.{Fault}
use Rattle.mc_replay.specs.declared.fault.Fault.TheVariants as fault
use Rattle.mc_replay.specs.declared.fault.Stop.{Stop}
use Rattle.mc_options.specs.declared.options.Options.{Options}
use Rattle.mc_options.specs.Options.{GivesOptions, AsksHelp, AsksVersion, IsFaulty}
use Rattle.mc_replay.specs.Scripts.{ReplaysKnown}
use Rattle.mc_replay.specs.FaultTexts.{stop_text}
use Rattle.mc_options.specs.ShapeTexts.{shape_text}
use Rattle.mc_options.specs.Statuses.{failed, refused}
use Rattle.mc_options.specs.Streams.{Stream, IsUntouched, Tells, Prints, IsShort}

-- what is printed for the end of a replay
abbrev pub TellsEnd : Stream → Result (Unit {0}) Stop → Type 0
TellsEnd errors (Ok u) = IsUntouched errors
TellsEnd errors (Err stop) = Tells errors (stop_text stop)

-- the exit status of a fault: either the script is to blame, or memory and the streams are
abbrev pub status_of : Fault → ℕ
status_of fault.ReadFailed = failed
status_of fault.NoMemory = failed
status_of fault.TooLong = refused
status_of fault.NotACommand = refused
status_of fault.BadNumber = refused
status_of fault.NoSuchReader = refused
status_of fault.StillRunning = refused
status_of fault.NothingToStep = refused
status_of fault.BadShape = refused
status_of fault.WriteFailed = failed

-- the exit status of a replay
abbrev pub exit_of : Result (Unit {0}) Stop → ℕ
exit_of (Ok u) = 0
exit_of (Err stop) = status_of stop.fault

-- everything comes from one replay over a table of this shape, with `readers` readers
abbrev pub Ends : ℕ → Shape → ℕ → Stream → Stream → Stream → ℕ → Type 0
Ends V sh readers input output errors status = (r : Result (Unit {0}) Stop) × ReplaysKnown V sh readers input.old input.new output.old output.new r × TellsEnd errors r × (status ≡ exit_of r)

-- the shape is refused, and nothing is replayed
abbrev pub IsRefused : Shape → Stream → Stream → Stream → ℕ → Type 0
IsRefused sh input output errors status =
    (e : ShapeError) × RefusesShape sh e × IsUntouched input × IsUntouched output × Tells errors (codes "refused: " ++ shape_text e) × (status ≡ refused)

-- a run with these options: a replay over their shape, or its refusal
abbrev pub RunsOptions : Options → Stream → Stream → Stream → ℕ → Type 0
RunsOptions o input output errors status =
    (IsShape o.shape × Ends o.words o.shape o.readers input output errors status) ⊎ IsRefused o.shape input output errors status

-- what the words of the command line ask for, and what comes of it
pub data Runs (words : List (List ℕ)) (input output errors : Stream) (status : ℕ) : Type 0 where
  runs : (o : Options) → GivesOptions (codes "mcstep") words o → RunsOptions o input output errors status → Runs words input output errors status
  prints : AsksHelp (codes "mcstep") words ⊎ AsksVersion (codes "mcstep") words → IsUntouched input → Prints errors status → Runs words input output errors status
  refuses : IsFaulty (codes "mcstep") words → IsUntouched input → IsUntouched output → status ≡ refused → Runs words input output errors status
  is_short : IsUntouched input → IsShort output errors status → Runs words input output errors status
