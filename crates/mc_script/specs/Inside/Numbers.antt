-- What only private contracts say beside `Numbers`.
use Rattle.std.specs.Prelude.{ℕ, ◌==◌, List, ◌∷◌, length, map, Option, Some, None, Result, Ok, Err, if◌then◌else◌}
use Rattle.std.specs.List.{list_all}
use Rattle.std.specs.Str.Parse.{digits_value}
use Rattle.mc_script.specs.declared.command.LineFault.{LineFault}
use Rattle.mc_script.specs.declared.command.LineFault.TheVariants.{NotACommand, BadNumber}
use Rattle.mc_script.specs.Numbers.{is_number}

-- the values of exactly n numbers: a wrong count is reported before a wrong form
unfoldable pub numbers_in : ℕ → List (List ℕ) → Result (List ℕ) LineFault
numbers_in n words =
    if length words == n then (if list_all is_number words then Ok (map (digits_value 10) words) else Err BadNumber)
    else Err NotACommand

abbrev pub number_of : List ℕ → Option ℕ
number_of word = if is_number word then Some (digits_value 10 word) else None

-- a first number and the others, as one list
abbrev pub join_numbers : Result (ℕ × List ℕ) LineFault → Result (List ℕ) LineFault
join_numbers (Ok found) = Ok (found.0 ∷ found.1)
join_numbers (Err fault) = Err fault

-- two first numbers and the others, as one list
abbrev pub join_two : Result (ℕ × ℕ × List ℕ) LineFault → Result (List ℕ) LineFault
join_two (Ok found) = Ok (found.0 ∷ found.1 ∷ found.2)
join_two (Err fault) = Err fault
