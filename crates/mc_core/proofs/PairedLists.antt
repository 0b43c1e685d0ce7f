-- Two lists whose parts at each index are related.
use Rattle.std.proofs.Common.{ℕ, zero, suc, ◌≡◌, ◌≤◌, List, [], ◌∷◌, length, Option, Some, None, refl, subst, arith}
use Rattle.std.specs.Prelude.{true, false, is_some, IfSome, slice_get, slice_set}
use Rattle.mc_core.specs.Seen.{Both}

-- they stay so if related parts are set
pub both_set : {A B : Type 0} (R : A → B → Type 0) (xs : List A) (ys : List B) (i : ℕ) (x : A) (y : B) → ((r : ℕ) → Both R (slice_get xs r) (slice_get ys r)) → R x y → (r : ℕ) → Both R (slice_get (slice_set xs i x) r) (slice_get (slice_set ys i y) r)
both_set R [] [] i x y all new r = all r
both_set R (a ∷ xs) (b ∷ ys) zero x y all new zero = new
both_set R (a ∷ xs) (b ∷ ys) zero x y all new (suc r) = all (suc r)
both_set R (a ∷ xs) (b ∷ ys) (suc i) x y all new zero = all zero
both_set R (a ∷ xs) (b ∷ ys) (suc i) x y all new (suc r) = both_set R xs ys i x y (λ q. all (suc q)) new r
both_set R [] (b ∷ ys) i x y all new r = absurd (all zero)
both_set R (a ∷ xs) [] i x y all new r = absurd (all zero)

-- if one side has something, the other has too
pub both_some : {A B : Type 0} (R : A → B → Type 0) (a : A) (o : Option A) (p : Option B) → Both R o p → o ≡ Some a → (b : B) × (p ≡ Some b) × R a b
both_some R a (Some x) (Some b) h e = let is : x ≡ a = cc in (b, refl, subst (λ y. R y b) is h)
both_some R a (Some x) None h e = absurd h
both_some R a None (Some b) h e = absurd h
both_some R a None None h e = absurd (cc (e))

-- and if it has nothing, neither has the other
pub both_none : {A B : Type 0} (R : A → B → Type 0) (o : Option A) (p : Option B) → Both R o p → o ≡ None → p ≡ None
both_none R None None h e = refl
both_none R None (Some b) h e = absurd h
both_none R (Some a) None h e = absurd h
both_none R (Some a) (Some b) h e = absurd (cc (e))

-- a list has nothing past its end alone
pub none_past : {A : Type 0} (xs : List A) (r : ℕ) → slice_get xs r ≡ None → length xs ≤ r
none_past [] r e = omega arith
none_past (x ∷ xs) zero e = absurd (cc (e))
none_past (x ∷ xs) (suc r) e = let rest = none_past xs r e in omega (arith, rest)

-- what was set is there
pub set_there : {A : Type 0} (xs : List A) (r : ℕ) (x y : A) → slice_get xs r ≡ Some y → slice_get (slice_set xs r x) r ≡ Some x
set_there [] r x y e = absurd (cc (e))
set_there (a ∷ xs) zero x y e = refl
set_there (a ∷ xs) (suc r) x y e = set_there xs r x y e

-- what a test says of something, and of nothing
pub some_of : {A : Type 0} (o : Option A) → is_some o ≡ true → (x : A) × (o ≡ Some x)
some_of (Some x) e = (x, refl)
some_of None e = absurd (cc (e))

-- what is not some is none
pub none_of : {A : Type 0} (o : Option A) → is_some o ≡ false → o ≡ None
none_of None e = refl
none_of (Some x) e = absurd (cc (e))

-- what holds of something that is there
pub if_some : {A : Type 0} (o : Option A) (x : A) (P : A → Type 0) → o ≡ Some x → IfSome o P → P x
if_some (Some y) x P e h = let is : y ≡ x = cc in subst P is h
if_some None x P e h = absurd (cc (e))
