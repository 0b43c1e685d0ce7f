-- Puts of many keys. Their values are stored one after the other.
use Rattle.std.specs.Prelude.{ℕ, List, [], ◌∷◌, drop, take}
use Rattle.mc_door.specs.declared.outcome.Outcome.{Outcome}
use Rattle.mc_door.specs.declared.outcome.RawPut.{RawPut}

-- each key with its value, of V words
abbrev pub entries_of : ℕ → List ℕ → List ℕ → List (ℕ × List ℕ)
entries_of V [] values = []
entries_of V (key ∷ keys) values = (key, take V values) ∷ entries_of V keys (drop V values)

-- what is returned, as one answer of many
abbrev pub put_answer : Outcome → RawPut
put_answer told = record { reply = told.reply; status = told.status; unused = 0 }
