-- What a line says: the forms of commands, and how words are read by them.
use Rattle.std.specs.Prelude.{ℕ, ◌==◌, ◌&&◌, not, Bool, true, List, [], ◌∷◌, drop, replicate, slice_index, Option, Some, None, Result, Ok, Err, codes, find, filter_map, zip, if◌then◌else◌}
use Rattle.std.specs.Cmp.Lexicographic.{pointwise}
use Rattle.std.specs.Str.{bytes_eq, is_utf8}
use Rattle.std.specs.Str.Parse.{digits_value}
use Rattle.mc_script.specs.declared.command.LineFault.{LineFault}
use Rattle.mc_script.specs.declared.command.LineFault.TheVariants.{NotACommand, BadNumber}
use Rattle.mc_script.specs.declared.command.Command.{Command}
use Rattle.mc_script.specs.declared.command.Command.TheVariants.{Put, PutIf, Remove, Get, Stamp, BeginPut, BeginPutIf, BeginRemove, Write, BeginGet, Read, Reopen}
use Rattle.mc_script.specs.Words.{words_of}
use Rattle.mc_script.specs.Numbers.{is_number}

-- A part of a form: a fixed word, a number, or a count of steps, which is a number that isn't 0.
pub data Part : Type 0 where
  Fixed : List ℕ → Part
  Number : Part
  Steps : Part

-- A form has its parts, and the command that its numbers make. v is the number of a value's words.
pub record Form (v : ℕ) : Type 0 where
  pub parts : List Part
  pub command : List ℕ → Command v

abbrev pub form : {v : ℕ} → List Part → (List ℕ → Command v) → Form v
form parts command = record { parts = parts; command = command }

abbrev pub first : List ℕ → ℕ
first numbers = slice_index numbers 0

abbrev pub second : List ℕ → ℕ
second numbers = slice_index numbers 1

-- The forms of commands.
abbrev pub forms : (v : ℕ) → List (Form v)
forms v =
    form (Fixed (codes "put") ∷ Number ∷ replicate v Number) (λ numbers. Put (first numbers) (drop 1 numbers))
    ∷ form (Fixed (codes "putif") ∷ Number ∷ Number ∷ replicate v Number) (λ numbers. PutIf (first numbers) (second numbers) (drop 2 numbers))
    ∷ form (Fixed (codes "remove") ∷ Number ∷ []) (λ numbers. Remove (first numbers))
    ∷ form (Fixed (codes "get") ∷ Number ∷ []) (λ numbers. Get (first numbers))
    ∷ form (Fixed (codes "stamp") ∷ Number ∷ []) (λ numbers. Stamp (first numbers))
    ∷ form (Fixed (codes "begin") ∷ Fixed (codes "put") ∷ Number ∷ replicate v Number) (λ numbers. BeginPut (first numbers) (drop 1 numbers))
    ∷ form (Fixed (codes "begin") ∷ Fixed (codes "putif") ∷ Number ∷ Number ∷ replicate v Number) (λ numbers. BeginPutIf (first numbers) (second numbers) (drop 2 numbers))
    ∷ form (Fixed (codes "begin") ∷ Fixed (codes "remove") ∷ Number ∷ []) (λ numbers. BeginRemove (first numbers))
    ∷ form (Fixed (codes "w") ∷ []) (λ numbers. Write 1)
    ∷ form (Fixed (codes "w") ∷ Steps ∷ []) (λ numbers. Write (first numbers))
    ∷ form (Fixed (codes "begin") ∷ Number ∷ Fixed (codes "get") ∷ Number ∷ []) (λ numbers. BeginGet (first numbers) (second numbers))
    ∷ form (Fixed (codes "r") ∷ Number ∷ []) (λ numbers. Read (first numbers) 1)
    ∷ form (Fixed (codes "r") ∷ Number ∷ Steps ∷ []) (λ numbers. Read (first numbers) (second numbers))
    ∷ form (Fixed (codes "reopen") ∷ Number ∷ Number ∷ []) (λ numbers. Reopen (first numbers) (second numbers))
    ∷ []

-- a fixed word may stand only for itself, any word for a number
abbrev pub may_stand : Part → List ℕ → Bool
may_stand (Fixed name) word = bytes_eq word name
may_stand Number word = true
may_stand Steps word = true

-- a word for a number is one, and a count of steps isn't 0
abbrev pub is_good : Part → List ℕ → Bool
is_good (Fixed name) word = true
is_good Number word = is_number word
is_good Steps word = is_number word && not (digits_value 10 word == 0)

abbrev pub value_of : Part → List ℕ → Option ℕ
value_of (Fixed name) word = None
value_of Number word = Some (digits_value 10 word)
value_of Steps word = Some (digits_value 10 word)

-- the numbers among the words, in their order
abbrev pub values : List Part → List (List ℕ) → List ℕ
values parts words = filter_map (λ placed. value_of placed.0 placed.1) (zip parts words)

-- what words say by the form that they have, if they have one
abbrev pub read_by : {v : ℕ} → List (List ℕ) → Option (Form v) → Result (Command v) LineFault
read_by words None = Err NotACommand
read_by words (Some form) = if pointwise is_good form.parts words then Ok (form.command (values form.parts words)) else Err BadNumber

-- Words have the first form that has as many parts, and the same fixed words in their places.
unfoldable pub command_of : (v : ℕ) → List (List ℕ) → Result (Command v) LineFault
command_of v words = read_by words (find (λ form. pointwise may_stand form.parts words) (forms v))

abbrev pub said : {v : ℕ} → Result (Command v) LineFault → Result (Option (Command v)) LineFault
said (Ok command) = Ok (Some command)
said (Err fault) = Err fault

-- A line without words says nothing, nor does a comment, whatever its bytes. Any other line is text.
unfoldable pub command_by : (v : ℕ) → List ℕ → List (List ℕ) → Result (Option (Command v)) LineFault
command_by v line [] = Ok None
command_by v line (word ∷ words) =
    if slice_index word 0 == 35 then Ok None
    else if is_utf8 line then said (command_of v (word ∷ words))
    else Err NotACommand

abbrev pub command_in : (v : ℕ) → List ℕ → Result (Option (Command v)) LineFault
command_in v line = command_by v line (words_of line)
