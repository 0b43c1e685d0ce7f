-- What a line says, as the parser reads it, one word after the other.
use Rattle.std.specs.Prelude.{ℕ, ◌+◌, ◌==◌, List, [], ◌∷◌, drop, slice_index, Result, Ok, Err, codes, if◌then◌else◌}
use Rattle.std.specs.Str.{bytes_eq}
use Rattle.mc_script.specs.declared.command.LineFault.{LineFault}
use Rattle.mc_script.specs.declared.command.LineFault.TheVariants.{NotACommand, BadNumber}
use Rattle.mc_script.specs.declared.command.Command.{Command}
use Rattle.mc_script.specs.declared.command.Command.TheVariants.{Put, PutIf, Remove, Get, Stamp, BeginPut, BeginPutIf, BeginRemove, Write, BeginGet, Read, Reopen}
use Rattle.mc_script.specs.Inside.Numbers.{numbers_in}

-- the command that is made of a line's numbers
abbrev pub command_from : {v : ℕ} → (List ℕ → Command v) → Result (List ℕ) LineFault → Result (Command v) LineFault
command_from command (Ok numbers) = Ok (command numbers)
command_from command (Err fault) = Err fault

-- the form that fits: the second, if the first has other fixed words or another number of words
abbrev pub otherwise : {v : ℕ} → Result (Command v) LineFault → Result (Command v) LineFault → Result (Command v) LineFault
otherwise (Err NotACommand) second = second
otherwise first second = first

-- the number at j is one of steps, of which there is at least one
abbrev pub stepping : ℕ → Result (List ℕ) LineFault → Result (List ℕ) LineFault
stepping j (Ok numbers) = if slice_index numbers j == 0 then Err BadNumber else Ok numbers
stepping j (Err fault) = Err fault

-- `put`, a key and the words of its value, after `begin`
abbrev pub begin_put_in : (v : ℕ) → List ℕ → List (List ℕ) → Result (Command v) LineFault
begin_put_in v first words =
    if bytes_eq first (codes "put") then command_from (λ numbers. BeginPut (slice_index numbers 0) (drop 1 numbers)) (numbers_in (v + 1) words)
    else Err NotACommand

-- `putif`, a key, a moment and the words of a value, after `begin`
abbrev pub begin_put_if_in : (v : ℕ) → List ℕ → List (List ℕ) → Result (Command v) LineFault
begin_put_if_in v first words =
    if bytes_eq first (codes "putif") then command_from (λ numbers. BeginPutIf (slice_index numbers 0) (slice_index numbers 1) (drop 2 numbers)) (numbers_in (v + 2) words)
    else Err NotACommand

-- `remove` and a key, after `begin`
abbrev pub begin_remove_in : (v : ℕ) → List ℕ → List (List ℕ) → Result (Command v) LineFault
begin_remove_in v first words =
    if bytes_eq first (codes "remove") then command_from (λ numbers. BeginRemove (slice_index numbers 0)) (numbers_in 1 words)
    else Err NotACommand

-- a reader, `get` and a key, after `begin`
abbrev pub begin_get_in : (v : ℕ) → List ℕ → List (List ℕ) → Result (Command v) LineFault
begin_get_in v first [] = Err NotACommand
begin_get_in v first (second ∷ words) =
    if bytes_eq second (codes "get") then command_from (λ numbers. BeginGet (slice_index numbers 0) (slice_index numbers 1)) (numbers_in 2 (first ∷ words))
    else Err NotACommand

abbrev pub begin_in : (v : ℕ) → List (List ℕ) → Result (Command v) LineFault
begin_in v [] = Err NotACommand
begin_in v (first ∷ words) = otherwise (begin_put_in v first words) (otherwise (begin_put_if_in v first words) (otherwise (begin_remove_in v first words) (begin_get_in v first words)))

-- one act of the writer
abbrev pub write_one_in : (v : ℕ) → List (List ℕ) → Result (Command v) LineFault
write_one_in v words = command_from (λ numbers. Write 1) (numbers_in 0 words)

-- a number of its acts
abbrev pub write_many_in : (v : ℕ) → List (List ℕ) → Result (Command v) LineFault
write_many_in v words = command_from (λ numbers. Write (slice_index numbers 0)) (stepping 0 (numbers_in 1 words))

abbrev pub write_in : (v : ℕ) → List (List ℕ) → Result (Command v) LineFault
write_in v words = otherwise (write_one_in v words) (write_many_in v words)

-- a reader, for one access
abbrev pub read_one_in : (v : ℕ) → List (List ℕ) → Result (Command v) LineFault
read_one_in v words = command_from (λ numbers. Read (slice_index numbers 0) 1) (numbers_in 1 words)

-- a reader, and a number of its accesses
abbrev pub read_many_in : (v : ℕ) → List (List ℕ) → Result (Command v) LineFault
read_many_in v words = command_from (λ numbers. Read (slice_index numbers 0) (slice_index numbers 1)) (stepping 1 (numbers_in 2 words))

abbrev pub read_in : (v : ℕ) → List (List ℕ) → Result (Command v) LineFault
read_in v words = otherwise (read_one_in v words) (read_many_in v words)

-- What a line says by its first word and those that follow it. v is the number of a value's words.
unfoldable pub form_in : (v : ℕ) → List ℕ → List (List ℕ) → Result (Command v) LineFault
form_in v name words =
    if bytes_eq name (codes "put") then command_from (λ numbers. Put (slice_index numbers 0) (drop 1 numbers)) (numbers_in (v + 1) words)
    else if bytes_eq name (codes "putif") then command_from (λ numbers. PutIf (slice_index numbers 0) (slice_index numbers 1) (drop 2 numbers)) (numbers_in (v + 2) words)
    else if bytes_eq name (codes "remove") then command_from (λ numbers. Remove (slice_index numbers 0)) (numbers_in 1 words)
    else if bytes_eq name (codes "get") then command_from (λ numbers. Get (slice_index numbers 0)) (numbers_in 1 words)
    else if bytes_eq name (codes "stamp") then command_from (λ numbers. Stamp (slice_index numbers 0)) (numbers_in 1 words)
    else if bytes_eq name (codes "begin") then begin_in v words
    else if bytes_eq name (codes "w") then write_in v words
    else if bytes_eq name (codes "r") then read_in v words
    else if bytes_eq name (codes "reopen") then command_from (λ numbers. Reopen (slice_index numbers 0) (slice_index numbers 1)) (numbers_in 2 words)
    else Err NotACommand
