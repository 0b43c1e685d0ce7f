-- What later words of a table keep of earlier ones.
use Rattle.std.specs.Prelude.{ℕ, ◌≡◌, ◌≢◌, ◌*◌, ◌<◌, List}
use Rattle.mc_words.specs.declared.shape.Shape.{Shape}
use Rattle.mc_words.specs.Places.{slot, item}
use Rattle.mc_words.specs.Standing.{NamesItem}

-- slot q of the later words holds this word, and the other slots hold what they held
pub record SetsSlot (sh : Shape) (w later : List ℕ) (q word : ℕ) : Type 0 where
  pub here : slot sh later q ≡ word
  pub others : (o : ℕ) → o < 4 * sh.buckets → o ≢ q → slot sh later o ≡ slot sh w o

abbrev pub KeepsSlots : Shape → List ℕ → List ℕ → Type 0
KeepsSlots sh w later = (o : ℕ) → o < 4 * sh.buckets → slot sh later o ≡ slot sh w o

-- the items are as they were
abbrev pub KeepsItems : ℕ → Shape → List ℕ → List ℕ → Type 0
KeepsItems V sh w later = (i j : ℕ) → item V sh later i j ≡ item V sh w i j

-- each item that was named still is
abbrev pub KeepsNamed : Shape → List ℕ → List ℕ → Type 0
KeepsNamed sh w later = (q j : ℕ) → NamesItem sh w q j → (o : ℕ) × NamesItem sh later o j
