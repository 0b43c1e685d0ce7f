-- The numbers of the faults at which a script stops.
use Rattle.std.specs.Prelude.{ℕ, ◌==◌, if◌then◌else◌, Option, Some, None, Result, Ok, Err}
use Rattle.mc_script.specs.declared.command.LineFault.{LineFault}
use Rattle.mc_script.specs.declared.command.LineFault.TheVariants as said
use Rattle.mc_replay.specs.declared.fault.Fault.{Fault}
use Rattle.mc_replay.specs.declared.fault.Fault.TheVariants.{ReadFailed, NoMemory, TooLong, NotACommand, BadNumber, NoSuchReader, StillRunning, NothingToStep, WriteFailed, BadShape}
use Rattle.mc_replay.specs.declared.fault.Stop.{Stop}
use Rattle.mc_replay.specs.declared.fault.ReplayError.{ReplayError}

abbrev pub fault_number : Fault → ℕ
fault_number ReadFailed = 1
fault_number NoMemory = 2
fault_number TooLong = 3
fault_number NotACommand = 4
fault_number BadNumber = 5
fault_number NoSuchReader = 6
fault_number StillRunning = 7
fault_number NothingToStep = 8
fault_number WriteFailed = 9
fault_number BadShape = 10

-- the fault of this number, if there is one
abbrev pub fault_at : ℕ → Option Fault
fault_at n = if n == 1 then Some ReadFailed else (if n == 2 then Some NoMemory else (if n == 3 then Some TooLong else (if n == 4 then Some NotACommand else (if n == 5 then Some BadNumber else (if n == 6 then Some NoSuchReader else (if n == 7 then Some StillRunning else (if n == 8 then Some NothingToStep else (if n == 9 then Some WriteFailed else (if n == 10 then Some BadShape else (None))))))))))

abbrev pub fault_of : LineFault → Fault
fault_of said.NotACommand = NotACommand
fault_of said.BadNumber = BadNumber

-- the error that a caller gets
abbrev pub as_replay_error : Result (Unit {0}) Stop → Result (Unit {0}) ReplayError
as_replay_error (Ok u) = Ok u
as_replay_error (Err stop) = Err (record { line = stop.line; number = fault_number stop.fault })
