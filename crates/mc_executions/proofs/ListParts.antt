-- Two ways to cut one list.
use Rattle.std.specs.Prelude.{slice_get, slice_set}
use Rattle.std.proofs.Common.{◌≡◌, ◌≢◌, ◌⊎◌, inl, inr, ℕ, zero, suc, List, [], ◌∷◌, ◌++◌, length, drop, get_or, refl, ap, sym, arith, length-append, Some}

-- the heads and the rests of the same list
pub same_head : {A : Type 0} (x y : A) (xs ys : List A) → x ∷ xs ≡ y ∷ ys → x ≡ y
same_head x y xs ys e = ap (λ (z : List _). get_or z 0 x) e

pub same_rest : {A : Type 0} (x y : A) (xs ys : List A) → x ∷ xs ≡ y ∷ ys → xs ≡ ys
same_rest x y xs ys e = ap (drop 1) e

-- lists of the same length at the head of one list are the same
pub same_parts : {A : Type 0} (xs ys xs' ys' : List A) → length xs ≡ length xs' → xs ++ ys ≡ xs' ++ ys' → (xs ≡ xs') × (ys ≡ ys')
same_parts [] ys [] ys' n e = (refl, e)
same_parts [] ys (x' ∷ xs') ys' n e = absurd (omega (arith, n))
same_parts (x ∷ xs) ys [] ys' n e = absurd (omega (arith, n))
same_parts (x ∷ xs) ys (x' ∷ xs') ys' n e =
    let head = same_head x x' (xs ++ ys) (xs' ++ ys') e in
    let p = same_parts xs ys xs' ys' (omega (arith, n)) (same_rest x x' (xs ++ ys) (xs' ++ ys') e) in
    ((λ i. head i ∷ p.0 i), p.1)

-- an element of two lists is one of the first or of the second
pub cut_at : {A : Type 0} (xs zs ys us : List A) (e : A) → xs ++ e ∷ zs ≡ ys ++ us → ((more : List A) × (ys ≡ xs ++ e ∷ more)) ⊎ ((more : List A) × (xs ≡ ys ++ more) × (us ≡ more ++ e ∷ zs))
cut_at xs zs [] us e same = inr (xs, refl, sym same)
cut_at [] zs (y ∷ ys) us e same =
    let head : y ≡ e = sym (same_head e y zs (ys ++ us) same) in
    inl (ys, (λ i. head i ∷ ys))
cut_at (x ∷ xs) zs (y ∷ ys) us e same =
    let head : y ≡ x = sym (same_head x y (xs ++ e ∷ zs) (ys ++ us) same) in
    elim (cut_at xs zs ys us e (same_rest x y (xs ++ e ∷ zs) (ys ++ us) same)) [
      | inl first ↦ inl (first.0, (λ i. head i ∷ first.1 i))
      | inr second ↦ inr (second.0, (λ i. sym head i ∷ second.1 i), second.2)
    ]

-- a list is empty or has a last element
pub last_of : {A : Type 0} (xs : List A) → (xs ≡ []) ⊎ ((ys : List A) × (y : A) × (xs ≡ ys ++ y ∷ []))
last_of [] = inl refl
last_of (x ∷ xs) = elim (last_of xs) [
  | inl none ↦ inr ([], x, ap (λ (z : List _). x ∷ z) none)
  | inr some' ↦ inr (x ∷ some'.0, some'.1, ap (λ (z : List _). x ∷ z) some'.2)
]

-- lists with one element more are the same if they and the elements are
pub same_last : {A : Type 0} (xs ys : List A) (x y : A) → xs ++ x ∷ [] ≡ ys ++ y ∷ [] → (xs ≡ ys) × (x ≡ y)
same_last [] [] x y e = (refl, same_head x y [] [] e)
same_last [] (z ∷ zs) x y e = absurd (omega (arith, ap length (same_rest x z [] (zs ++ y ∷ []) e), length-append zs (y ∷ [])))
same_last (z ∷ zs) [] x y e = absurd (omega (arith, ap length (same_rest z y (zs ++ x ∷ []) [] e), length-append zs (x ∷ [])))
same_last (z ∷ zs) (u ∷ us) x y e =
    let head = same_head z u (zs ++ x ∷ []) (us ++ y ∷ []) e in
    let p = same_last zs us x y (same_rest z u (zs ++ x ∷ []) (us ++ y ∷ []) e) in
    ((λ i. head i ∷ p.0 i), p.1)

-- what is at a place that was set, and at another
pub got_here : {A : Type 0} (xs : List A) (i : ℕ) (x y : A) → slice_get xs i ≡ Some x → slice_get (slice_set xs i y) i ≡ Some y
got_here [] i x y e = absurd (cc)
got_here (z ∷ zs) zero x y e = refl
got_here (z ∷ zs) (suc i) x y e = got_here zs i x y e

pub got_else : {A : Type 0} (xs : List A) (i j : ℕ) (y : A) → j ≢ i → slice_get (slice_set xs i y) j ≡ slice_get xs j
got_else [] i j y n = refl
got_else (z ∷ zs) zero zero y n = absurd (n refl)
got_else (z ∷ zs) zero (suc j) y n = refl
got_else (z ∷ zs) (suc i) zero y n = refl
got_else (z ∷ zs) (suc i) (suc j) y n = got_else zs i j y (λ e. n (ap suc e))
