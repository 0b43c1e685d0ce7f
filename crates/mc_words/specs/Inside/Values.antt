-- An item's value, without the stamp after it.
use Rattle.std.specs.Prelude.{ℕ, ◌≡◌, List, length}
use Rattle.mc_words.specs.declared.shape.Shape.{Shape}
use Rattle.mc_words.specs.Standing.{ItemBegins}

-- the first V words after an item's key, its value, are these
abbrev pub HasValue : ℕ → Shape → List ℕ → ℕ → List ℕ → Type 0
HasValue V sh w i v = (length v ≡ V) × ItemBegins V sh w i v
