-- What is printed for a fault, without the line's end.
use Rattle.std.specs.Prelude.{ℕ, Option, Some, None, List, ◌==◌, ◌++◌, codes, if◌then◌else◌}
use Rattle.std.specs.Fmt.{decimal}
use Rattle.mc_replay.specs.declared.fault.Fault.{Fault}
use Rattle.mc_replay.specs.declared.fault.Fault.TheVariants as fault
use Rattle.mc_replay.specs.Faults.{fault_at}
use Rattle.mc_replay.specs.declared.fault.ReplayError.{ReplayError}
use Rattle.mc_replay.specs.declared.fault.Stop.{Stop}

abbrev pub fault_text : Fault → List ℕ
fault_text fault.ReadFailed = codes "read failed"
fault_text fault.NoMemory = codes "no memory"
fault_text fault.TooLong = codes "too long"
fault_text fault.NotACommand = codes "not a command"
fault_text fault.BadNumber = codes "bad number"
fault_text fault.NoSuchReader = codes "no such reader"
fault_text fault.StillRunning = codes "still running"
fault_text fault.NothingToStep = codes "nothing to step"
fault_text fault.WriteFailed = codes "write failed"
fault_text fault.BadShape = codes "bad shape"

-- what is printed if no line was read
abbrev pub refusal_text : Fault → List ℕ
refusal_text fault.NoSuchReader = codes "readers must be from 1 to 1024"
refusal_text f = fault_text f

-- where and why a script stopped; at line 0 no line was read
abbrev pub stop_text : Stop → List ℕ
stop_text stop = if stop.line == 0 then codes "refused: " ++ refusal_text stop.fault else codes "line " ++ decimal stop.line ++ codes ": " ++ fault_text stop.fault

-- that text, if the number of the fault is one; otherwise only the line
abbrev pub stopped_text : ℕ → Option Fault → List ℕ
stopped_text line (Some f) = stop_text (record { line = line; fault = f })
stopped_text line None = codes "line " ++ decimal line

abbrev pub error_text : ReplayError → List ℕ
error_text error = stopped_text error.line (fault_at error.number)
