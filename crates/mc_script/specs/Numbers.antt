-- The words that are numbers.
use Rattle.std.specs.Prelude.{ℕ, ◌^◌, ◌&&◌, Bool, List, length, nat_lt}
use Rattle.std.specs.List.{list_all}
use Rattle.std.specs.Char.{is_ascii_digit}
use Rattle.std.specs.Str.Parse.{digits_value}

-- one to twenty digits, of less than 2 ^ 64
abbrev pub is_number : List ℕ → Bool
is_number word = nat_lt 0 (length word) && nat_lt (length word) 21 && list_all is_ascii_digit word && nat_lt (digits_value 10 word) (2 ^ 64)
