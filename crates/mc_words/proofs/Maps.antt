-- The map after one change more, and the histories that are legal.
use Rattle.std.proofs.Common.{ℕ, ◌≡◌, ◌≢◌, ◌+◌, ◌≤◌, false, cond, eqb, List, [], ◌∷◌, ◌++◌, length, Some, None, refl, sym, ◌∙◌, ap, subst, inl, inr, arith}
use Rattle.std.specs.List.{AllByRecursion, IsDistinct}
use Rattle.std.specs.Map.{lookup, keys_of}
use Rattle.std.proofs.lemmas.Bool.{eqb-true, eq-eqb, ne_eqb, cases_Bool, cond-true, cond-false}
use Rattle.std.proofs.lemmas.Map.Keys.{IsDistinct-cons, IsDistinct-head, IsDistinct-tail}
use Rattle.mc_words.specs.History.{map_without, map_after, map_from, map_value, MayFollow, LegalFrom}
use Rattle.mc_words.specs.declared.history.Change.{Change}
use Rattle.mc_words.specs.declared.history.Change.TheVariants.{Put, Remove, Evict}

pub lookup-without_same : (k : ℕ) (m : List (ℕ × List ℕ)) → lookup (λ q. eqb k q) (map_without k m) ≡ None
lookup-without_same k [] = refl
lookup-without_same k (e ∷ es) =
    elim (cases_Bool (eqb k e.0)) [
      | inl t ↦ rw (cond-true (eqb k e.0) _ _ t) (lookup-without_same k es)
      | inr f ↦ rw (cond-false (eqb k e.0) _ _ f) (rw f (lookup-without_same k es))
    ]

pub lookup-without_other : (k q : ℕ) (m : List (ℕ × List ℕ)) → q ≢ k → lookup (λ x. eqb q x) (map_without k m) ≡ lookup (λ x. eqb q x) m
lookup-without_other k q [] ne = refl
lookup-without_other k q (e ∷ es) ne =
    elim (cases_Bool (eqb k e.0)) [
      | inl t ↦
          let other : eqb q e.0 ≡ false = ne_eqb q e.0 (λ h. ne (h ∙ sym (eqb-true k e.0 t))) in
          rw (cond-true (eqb k e.0) _ _ t) (rw other (lookup-without_other k q es ne))
      | inr f ↦ rw (cond-false (eqb k e.0) _ _ f) (ap (λ r. cond (eqb q e.0) (Some e.1) r) (lookup-without_other k q es ne))
    ]

-- the last change is number t
pub map_from-push : {V : ℕ} (n t : ℕ) (m : List (ℕ × List ℕ)) (h : List (Change V)) (c : Change V) → t ≡ n + length h → map_from n m (h ++ c ∷ []) ≡ map_after t (map_from n m h) c
map_from-push n t m [] c e = subst (λ (y : ℕ). map_after n m c ≡ map_after y m c) (omega (arith, e)) refl
map_from-push n t m (x ∷ xs) c e = map_from-push (n + 1) t (map_after n m x) xs c (omega (arith, e))

pub held-none : (n : ℕ) (k : ℕ) → map_value {V = n} [] k ≡ None
unfolding map_value
held-none n k = refl

pub held-put : {n : ℕ} (h : List (Change n)) (k : ℕ) (v : List ℕ) → map_value (h ++ Put k v ∷ []) k ≡ Some (v ++ (length h + 1) ∷ [])
unfolding map_value
held-put h k v = rw (map_from-push 1 (length h + 1) [] h (Put k v) (omega arith)) (rw (eq-eqb k k refl) refl)

pub held-remove : {n : ℕ} (h : List (Change n)) (k : ℕ) → map_value (h ++ Remove k ∷ []) k ≡ None
unfolding map_value
held-remove h k = rw (map_from-push 1 (length h + 1) [] h (Remove k) (omega arith)) (lookup-without_same k (map_from 1 [] h))

pub held-evict : {n : ℕ} (h : List (Change n)) (k : ℕ) → map_value (h ++ Evict k ∷ []) k ≡ None
unfolding map_value
held-evict h k = rw (map_from-push 1 (length h + 1) [] h (Evict k) (omega arith)) (lookup-without_same k (map_from 1 [] h))

abbrev pub key_of : {n : ℕ} → Change n → ℕ
key_of (Put k v) = k
key_of (Remove k) = k
key_of (Evict k) = k

lookup-changed_other : {V : ℕ} (n : ℕ) (m : List (ℕ × List ℕ)) (c : Change V) (q : ℕ) → q ≢ key_of c → lookup (λ x. eqb q x) (map_after n m c) ≡ lookup (λ x. eqb q x) m
lookup-changed_other n m (Put k v) q ne = rw (ne_eqb q k ne) (lookup-without_other k q m ne)
lookup-changed_other n m (Remove k) q ne = lookup-without_other k q m ne
lookup-changed_other n m (Evict k) q ne = lookup-without_other k q m ne

pub held-other : {n : ℕ} (h : List (Change n)) (c : Change n) (q : ℕ) → q ≢ key_of c → map_value (h ++ c ∷ []) q ≡ map_value h q
unfolding map_value
held-other h c q ne = rw (map_from-push 1 (length h + 1) [] h c (omega arith)) (lookup-changed_other (length h + 1) (map_from 1 [] h) c q ne)

-- the keys of a map are distinct
all_without : (P : ℕ → Type 0) (k : ℕ) (m : List (ℕ × List ℕ)) → AllByRecursion P (keys_of m) → AllByRecursion P (keys_of (map_without k m))
all_without P k [] a = a
all_without P k (e ∷ es) a =
    elim (cases_Bool (eqb k e.0)) [
      | inl t ↦ rw (cond-true (eqb k e.0) _ _ t) (all_without P k es a.1)
      | inr f ↦ rw (cond-false (eqb k e.0) _ _ f) (a.0, all_without P k es a.1)
    ]

none_without : (k : ℕ) (m : List (ℕ × List ℕ)) → AllByRecursion (λ y. eqb k y ≡ false) (keys_of (map_without k m))
none_without k [] = tt
none_without k (e ∷ es) =
    elim (cases_Bool (eqb k e.0)) [
      | inl t ↦ rw (cond-true (eqb k e.0) _ _ t) (none_without k es)
      | inr f ↦ rw (cond-false (eqb k e.0) _ _ f) (f, none_without k es)
    ]

distinct_without : (k : ℕ) (m : List (ℕ × List ℕ)) → IsDistinct eqb (keys_of m) → IsDistinct eqb (keys_of (map_without k m))
distinct_without k [] d = d
distinct_without k (e ∷ es) d =
    elim (cases_Bool (eqb k e.0)) [
      | inl t ↦ rw (cond-true (eqb k e.0) _ _ t) (distinct_without k es (IsDistinct-tail eqb e.0 (keys_of es) d))
      | inr f ↦ rw (cond-false (eqb k e.0) _ _ f) (IsDistinct-cons eqb e.0 (keys_of (map_without k es)) (all_without (λ y. eqb e.0 y ≡ false) k es (IsDistinct-head eqb e.0 (keys_of es) d)) (distinct_without k es (IsDistinct-tail eqb e.0 (keys_of es) d)))
    ]

distinct_changed : {V : ℕ} (n : ℕ) (m : List (ℕ × List ℕ)) (c : Change V) → IsDistinct eqb (keys_of m) → IsDistinct eqb (keys_of (map_after n m c))
distinct_changed n m (Put k v) d = IsDistinct-cons eqb k (keys_of (map_without k m)) (none_without k m) (distinct_without k m d)
distinct_changed n m (Remove k) d = distinct_without k m d
distinct_changed n m (Evict k) d = distinct_without k m d

pub distinct_keys : {V : ℕ} (n : ℕ) (m : List (ℕ × List ℕ)) (h : List (Change V)) → IsDistinct eqb (keys_of m) → IsDistinct eqb (keys_of (map_from n m h))
distinct_keys n m [] d = d
distinct_keys n m (c ∷ cs) d = distinct_keys (n + 1) (map_after n m c) cs (distinct_changed n m c d)

pub legal-push : {V : ℕ} (z n : ℕ) (m : List (ℕ × List ℕ)) (h : List (Change V)) (c : Change V) → LegalFrom z n m h → MayFollow (map_from n m h) c → length (map_from n m (h ++ c ∷ [])) ≤ z → LegalFrom z n m (h ++ c ∷ [])
legal-push z n m [] c l may size = (l, may, size)
legal-push z n m (x ∷ xs) c l may size = (l.0, l.1, legal-push z (n + 1) (map_after n m x) xs c l.2 may size)
