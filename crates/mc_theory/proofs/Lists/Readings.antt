-- Parts of a list of readings, and readings of a list of acts that grows.
use Rattle.std.proofs.Common.{ℕ, ◌≤◌, List, [], ◌∷◌, ◌++◌, arith}
use Rattle.mc_theory.specs.Lists.{Made}
use Rattle.mc_theory.specs.Readings.{AreRead, Reading, RiseTo}
use Rattle.mc_words.specs.declared.shape.Shape.{Shape}

-- fronts that do not fall
pub rise_le : (f : ℕ) (rs : List Reading) (g : ℕ) → RiseTo f rs g → f ≤ g
rise_le f [] g r = r
rise_le f (x ∷ xs) g r = let h = rise_le x.front xs g r.1 in omega (arith, r.0)

-- fronts that rise do so in two parts
pub rise_parts : (f : ℕ) (xs ys : List Reading) (g : ℕ) → RiseTo f (xs ++ ys) g → (m : ℕ) × RiseTo f xs m × RiseTo m ys g
rise_parts f [] ys g r = (f, omega arith, r)
rise_parts f (x ∷ xs) ys g r = let rest = rise_parts x.front xs ys g r.1 in (rest.0, (r.0, rest.1), rest.2)

-- words that are those of their places
pub read_parts : (V : ℕ) (sh : Shape) (acts : List Made) (xs ys : List Reading) → AreRead V sh acts (xs ++ ys) → AreRead V sh acts xs × AreRead V sh acts ys
read_parts V sh acts [] ys r = (tt, r)
read_parts V sh acts (x ∷ xs) ys r = let rest = read_parts V sh acts xs ys r.1 in ((r.0, rest.0), rest.1)

-- fronts that end by one number end by a greater one
pub rise_on : (f : ℕ) (rs : List Reading) (g h : ℕ) → RiseTo f rs g → g ≤ h → RiseTo f rs h
rise_on f [] g h up l = omega arith
rise_on f (x ∷ xs) g h up l = (up.0, rise_on x.front xs g h up.1 l)

-- one reading more
pub rise_push : (f : ℕ) (rs : List Reading) (r : Reading) (g : ℕ) → RiseTo f rs r.front → r.front ≤ g → RiseTo f (rs ++ r ∷ []) g
rise_push f [] r g up l = (up, l)
rise_push f (x ∷ xs) r g up l = (up.0, rise_push x.front xs r g up.1 l)

-- and one more word that is that of its place
pub read_push : (V : ℕ) (sh : Shape) (acts : List Made) (rs : List Reading) (r : Reading) → AreRead V sh acts rs → AreRead V sh acts (r ∷ []) → AreRead V sh acts (rs ++ r ∷ [])
read_push V sh acts [] r read one = one
read_push V sh acts (x ∷ xs) r read one = (read.0, read_push V sh acts xs r read.1 one)
