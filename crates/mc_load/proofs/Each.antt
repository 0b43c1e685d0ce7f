-- What is known of each element of a list, by its place.
use Rattle.std.proofs.Common.{ℕ, below_more, ◌≡◌, ◌+◌, ◌<◌, List, [], ◌∷◌, ◌++◌, length, get_or, set, ap, sym, subst, ◌∙◌, arith}
use Rattle.std.proofs.Math.Seq.{get_or-append_seam}
use Rattle.std.proofs.lemmas.List.{get_or_append_left, get_or-set_other, get_or-set_same, length-append}

abbrev pub Each : {X : Type 0} → (ℕ → X → Type 0) → List X → Type 0
Each {X} P xs = (n : ℕ) (d : X) → n < length xs → P n (get_or xs n d)

-- an element more
pub each_more : {X : Type 0} (P : ℕ → X → Type 0) (xs : List X) (x : X) → Each P xs → P (length xs) x → Each P (xs ++ x ∷ [])
each_more {X} P xs x all one = λ n d low.
    below_more (λ (k : ℕ). (e : X) → P k (get_or (xs ++ x ∷ []) k e)) (length xs)
    (λ k under e. subst (P k) (sym (get_or_append_left xs (x ∷ []) e k under)) (all k e under))
    (λ e. subst (P (length xs)) (sym (get_or-append_seam xs x [] e)) one)
    n (omega (arith, low, length-append xs (x ∷ []))) d

-- the last one is taken off
pub each_front : {X : Type 0} (P : ℕ → X → Type 0) (all xs : List X) (x : X) → all ≡ xs ++ x ∷ [] → Each P all → Each P xs
each_front {X} P all xs x e h = λ n d low.
    subst (P n) (ap (λ (z : List X). get_or z n d) e ∙ get_or_append_left xs (x ∷ []) d n low) (h n d (omega (arith, ap length e, length-append xs (x ∷ []), low)))

-- and what is known of it
pub each_last : {X : Type 0} (P : ℕ → X → Type 0) (all xs : List X) (x : X) → all ≡ xs ++ x ∷ [] → Each P all → P (length xs) x
each_last {X} P all xs x e h =
    subst (P (length xs)) (ap (λ (z : List X). get_or z (length xs) x) e ∙ get_or-append_seam xs x [] x) (h (length xs) x (omega (arith, ap length e, length-append xs (x ∷ []))))

-- the first n elements, and then the next, which is written
pub each_written : {X : Type 0} (P : ℕ → X → Type 0) (xs : List X) (n : ℕ) (x : X) → n < length xs → ((k : ℕ) (d : X) → k < n → P k (get_or xs k d)) → P n x → (k : ℕ) (d : X) → k < n + 1 → P k (get_or (set xs n x) k d)
each_written {X} P xs n x here all one = λ k d low.
    below_more (λ (j : ℕ). (e : X) → P j (get_or (set xs n x) j e)) n
    (λ j under e. subst (P j) (sym (get_or-set_other xs n j x e (λ same. absurd (omega (arith, same, under))))) (all j e under))
    (λ e. subst (P n) (sym (get_or-set_same xs n x e here)) one)
    k low d
