-- What only private contracts say beside `Lines`.
use Rattle.std.specs.Prelude.{ℕ, List, [], ◌∷◌, Option, Some, None, Result, Ok, Err}
use Rattle.std.specs.Io.KnownBytes.{Consumes, Keeps, IsAtEnd}
use Rattle.mc_script.specs.declared.line.ReadFault.{ReadFault}
use Rattle.mc_script.specs.declared.line.ReadFault.TheVariants.{ReadFailed, TooLong}

-- what reading one byte takes
abbrev pub GivesByte : Option (List ℕ) → Option (List ℕ) → Result (Option ℕ) ReadFault → Type 0
GivesByte old new (Ok (Some b)) = Consumes old new (b ∷ [])
GivesByte old new (Ok None) = Consumes old new [] × IsAtEnd new
GivesByte old new (Err ReadFailed) = Keeps old new
GivesByte old new (Err TooLong) = ⊥
