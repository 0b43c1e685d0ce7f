-- What only private contracts say beside `Words`.
use Rattle.std.specs.Prelude.{◌≡◌, ℕ, ◌<◌, List, [], ◌∷◌, length, Option, Some, None}
use Rattle.std.specs.Borrow.{Bor}
use Rattle.mc_script.specs.Words.{words_of}

-- the first word and the bytes after it
abbrev pub FirstWord : List ℕ → Option (Bor (List ℕ) × Bor (List ℕ)) → Type 0
FirstWord bytes None = words_of bytes ≡ []
FirstWord bytes (Some found) = (words_of bytes ≡ found.0.now ∷ words_of found.1.now) × (0 < length found.0.now)
