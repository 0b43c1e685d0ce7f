-- Words of different uses are at different places.
use Rattle.std.proofs.Common.{ℕ, ◌≡◌, ◌+◌, ◌*◌, ◌<◌, ◌≤◌, arith, refl, ap, ◌∙◌}
use Rattle.std.proofs.lemmas.Nat.{same_from_place}
use Rattle.mc_words.specs.Places.{payload, Use, TheMoment, AVersion, ASlot, AnItem, ARecency, IsUse, place_of, all_words, PlacesApart}
use Rattle.mc_words.specs.declared.shape.Shape.{Shape}
use Rattle.mc_words.proofs.Places.{row_below}

same_item : (V : ℕ) (i j g h : ℕ) → j ≤ payload V → h ≤ payload V → i * (1 + payload V) + j ≡ g * (1 + payload V) + h → AnItem i j ≡ AnItem g h
same_item V i j g h a b e =
    let same = same_from_place i j g h (1 + payload V) (omega arith) (omega arith) e in
    ap (λ x. AnItem x j) same.0 ∙ ap (λ y. AnItem g y) same.1

-- two uses at one place are one use
apart : (V : ℕ) (sh : Shape) (a b : Use) → IsUse V sh a → IsUse V sh b → place_of V sh a ≡ place_of V sh b → a ≡ b
apart V sh TheMoment TheMoment x y e = refl
apart V sh TheMoment (AVersion t) x y e = absurd (omega arith)
apart V sh TheMoment (ASlot q) x y e = absurd (omega arith)
apart V sh TheMoment (AnItem i j) x y e = absurd (omega arith)
apart V sh TheMoment (ARecency m) x y e = absurd (omega arith)
apart V sh (AVersion t) TheMoment x y e = absurd (omega arith)
apart V sh (AVersion t) (AVersion u) x y e = ap AVersion (omega arith)
apart V sh (AVersion t) (ASlot q) x y e = absurd (omega arith)
apart V sh (AVersion t) (AnItem i j) x y e = absurd (omega arith)
apart V sh (AVersion t) (ARecency m) x y e = absurd (omega arith)
apart V sh (ASlot p) TheMoment x y e = absurd (omega arith)
apart V sh (ASlot p) (AVersion t) x y e = absurd (omega arith)
apart V sh (ASlot p) (ASlot q) x y e = ap ASlot (omega arith)
apart V sh (ASlot p) (AnItem i j) x y e = absurd (omega arith)
apart V sh (ASlot p) (ARecency m) x y e = absurd (omega arith)
apart V sh (AnItem i j) TheMoment x y e = absurd (omega arith)
apart V sh (AnItem i j) (AVersion t) x y e = absurd (omega arith)
apart V sh (AnItem i j) (ASlot q) x y e = absurd (omega arith)
apart V sh (AnItem i j) (AnItem g h) x y e = same_item V i j g h x.1 y.1 (omega arith)
apart V sh (AnItem i j) (ARecency m) x y e = let row = row_below (payload V) i j sh.items x.0 x.1 in absurd (omega arith)
apart V sh (ARecency m) TheMoment x y e = absurd (omega arith)
apart V sh (ARecency m) (AVersion t) x y e = absurd (omega arith)
apart V sh (ARecency m) (ASlot q) x y e = absurd (omega arith)
apart V sh (ARecency m) (AnItem i j) x y e = let row = row_below (payload V) i j sh.items y.0 y.1 in absurd (omega arith)
apart V sh (ARecency m) (ARecency l) x y e = ap ARecency (omega arith)

-- each place is below the number of words
below : (V : ℕ) (sh : Shape) (a : Use) → IsUse V sh a → place_of V sh a < all_words V sh
below V sh TheMoment x = omega arith
below V sh (AVersion t) x = omega arith
below V sh (ASlot q) x = omega arith
below V sh (AnItem i j) x = let row = row_below (payload V) i j sh.items x.0 x.1 in omega arith
below V sh (ARecency m) x = omega arith

pub places_apart : (V : ℕ) → PlacesApart V
places_apart V = record { apart = apart V; below = below V }
