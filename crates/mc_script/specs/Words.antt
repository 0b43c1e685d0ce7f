-- The words of a line, parted by spaces and tabs.
use Rattle.std.specs.Prelude.{ℕ, zero, suc, ◌==◌, ◌||◌, not, Bool, List, [], ◌∷◌, length, drop, if◌then◌else◌}
use Rattle.std.specs.List.{take_while, prefix_len}

-- a space or a tab
abbrev pub is_blank : ℕ → Bool
is_blank b = (b == 32) || (b == 9)

abbrev pub is_inner : ℕ → Bool
is_inner b = not (is_blank b)

-- The words of some bytes. n is at least the number of bytes.
unfoldable pub words_within : ℕ → List ℕ → List (List ℕ)
words_within zero bytes = []
words_within (suc n) [] = []
words_within (suc n) (b ∷ bytes) =
    if is_blank b then words_within n bytes
    else take_while is_inner (b ∷ bytes) ∷ words_within n (drop (prefix_len is_inner (b ∷ bytes)) (b ∷ bytes))

abbrev pub words_of : List ℕ → List (List ℕ)
words_of bytes = words_within (length bytes) bytes
