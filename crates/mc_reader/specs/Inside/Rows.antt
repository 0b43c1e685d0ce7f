-- Where the words that a lookup of a key reads are.
use Rattle.std.specs.Prelude.{ℕ, ◌≡◌}
use Rattle.mc_words.specs.Keys.{first_of, second_of, stripe_of}
use Rattle.mc_words.specs.Places.{item_place, slot_number, slot_place, version_place}
use Rattle.mc_words.specs.declared.shape.Shape.{Shape}
use Rattle.mc_lookup.specs.Machine.{place_in}
use Rattle.mc_reader.specs.declared.places.Places.{Places}

-- the place of one of the key's eight slots
abbrev pub row_of : Shape → ℕ → ℕ → ℕ
row_of sh k j = slot_place sh (slot_number (place_in (first_of sh k) (second_of sh k) j))

pub record ArePlacesOf (V : ℕ) (sh : Shape) (k : ℕ) (p : Places) : Type 0 where
  pub version : p.version ≡ version_place (stripe_of sh k)
  pub first : p.first ≡ row_of sh k 0
  pub second : p.second ≡ row_of sh k 4
  pub items : p.items ≡ item_place V sh 0 0
