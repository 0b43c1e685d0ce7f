-- The lines of a report, as the program keeps them.
use Rattle.std.specs.Prelude.{ℕ, List}
use Rattle.mc_load.specs.LoadPrograms.{lines_text}
use Rattle.mc_load.specs.declared.load_told.Lines.{Lines}

abbrev pub text_of : Lines → List ℕ
text_of lines = lines_text lines.lookups lines.writes lines.adds_up lines.wrong
