-- Items that are taken and given back.
use Rattle.std.proofs.Common.{ℕ, zero, suc, ◌≡◌, ◌≢◌, ◌+◌, ◌<◌, ◌≤◌, ◌∙◌, inl, inr, List, [], ◌∷◌, map, All, Contains, false, eqb, ap, refl, sym, subst, length, arith}
use Rattle.std.proofs.lemmas.Bool.{cases_lt, eqb-true, eq-eqb, false≢true, ne_eqb}
use Rattle.std.proofs.lemmas.List.{length-map}
use Rattle.std.proofs.lemmas.List.Elements.{All-from_recursion, All-contains, All-tail, All-cons, Contains-append_right, Contains-append_cases}
use Rattle.std.proofs.lemmas.List.Sorted.{IsPermutation-map, IsPermutation-sym, Contains-permutation, All-permutation}
use Rattle.std.proofs.lemmas.Map.Keys.{IsDistinct-IsPermutation, IsDistinct-cons, IsDistinct-head, IsDistinct-tail}
use Rattle.std.proofs.lemmas.Map.Steps.{length-le_from_distinct_below}
use Rattle.std.proofs.lemmas.Map.Views.{Contains-from_any}
use Rattle.std.specs.BinaryHeap.{IsHeap, IsUpperBound, heap_items, heap_capacity}
use Rattle.std.specs.List.{IsDistinct, AllByRecursion}
use Rattle.std.specs.List.Sorted.{IsPermutation}
use Rattle.std.specs.Ordering.{nat_cmp}
use Rattle.std.specs.declared.cmp.Ordering.{Ordering}
use Rattle.std.specs.declared.cmp.Reverse.{Reverse}
use Rattle.mc_search.specs.declared.free.FreeList.{FreeList}
use Rattle.mc_search.specs.Free.{returned_items, IsInList, Fresh, Returned, IsFreeList, TakesListed, GivesListed}

abbrev numbers : List (Reverse ℕ) → List ℕ
numbers xs = map (λ (r : Reverse ℕ). r.0) xs

abbrev order : Reverse ℕ → Reverse ℕ → Ordering
order x y = nat_cmp y.0 x.0

flips : (x y : ℕ) → eqb x y ≡ eqb y x
flips x y = grind arith

-- ---- lists
one_of : (x : ℕ) (xs : List ℕ) (j : ℕ) → Contains (x ∷ xs) j → (j ≡ x → ⊥) → Contains xs j
one_of x xs j c ne =
    elim (Contains-append_cases (x ∷ []) xs j c) [
      | inl (zero, l, e) ↦ absurd (ne (sym e))
      | inl (suc n, l, e) ↦ absurd (omega arith)
      | inr later ↦ later
    ]

-- what is at the head of a distinct list is not in the rest
not_again : (x : ℕ) (xs : List ℕ) → IsDistinct eqb (x ∷ xs) → Contains xs x → ⊥
not_again x xs d c =
    let other : eqb x x ≡ false = All-contains (λ y. eqb x y ≡ false) xs x (All-from_recursion (λ y. eqb x y ≡ false) xs (IsDistinct-head eqb x xs d)) c in
    false≢true (sym other ∙ eq-eqb x x refl)

-- a number that is not in a distinct list
apart_from : (x : ℕ) (xs : List ℕ) → (Contains xs x → ⊥) → AllByRecursion (λ y. eqb x y ≡ false) xs
apart_from x [] none = tt
apart_from x (y ∷ ys) none =
    (ne_eqb x y (λ e. none (0, omega arith, sym e)), apart_from x ys (λ c. none (Contains-append_right (y ∷ []) ys x c)))

-- what the top bounds
bounded : (x : Reverse ℕ) (xs : List (Reverse ℕ)) → IsUpperBound order x xs → AllByRecursion (λ i. x.0 ≤ i) (numbers xs)
bounded x [] b = tt
bounded x (y ∷ ys) b = (grind arith, bounded x ys b.1)

-- ---- the least item is taken from those that were given back
module _ (f g : FreeList) (x : Reverse ℕ) (kept : IsFreeList f) (items : g.items ≡ f.items) (fresh : g.fresh ≡ f.fresh) (perm : IsPermutation (heap_items f.returned) (x ∷ heap_items g.returned)) where
  perm_of : IsPermutation (returned_items f) (x.0 ∷ returned_items g)
  perm_of = IsPermutation-map (λ (r : Reverse ℕ). r.0) (heap_items f.returned) (x ∷ heap_items g.returned) perm

  distinct_of : IsDistinct eqb (x.0 ∷ returned_items g)
  distinct_of = IsDistinct-IsPermutation eqb flips _ _ perm_of kept.distinct

  below_of : All (λ i. i < f.fresh) (x.0 ∷ returned_items g)
  below_of = All-permutation (λ i. i < f.fresh) _ _ perm_of kept.below

  was_below : x.0 < f.fresh
  was_below = below_of 0 0 (omega arith)

  pub popped_kept : IsHeap order (heap_items g.returned) → g.items ≤ heap_capacity g.returned → IsFreeList g
  popped_kept ordered room = record {
    ordered = ordered;
    within = omega (arith, kept.within);
    below = All-tail (λ i. i < g.fresh) x.0 (returned_items g) (subst (λ (n : ℕ). All (λ i. i < n) (x.0 ∷ returned_items g)) (sym fresh) below_of);
    distinct = IsDistinct-tail eqb x.0 (returned_items g) distinct_of;
    room = room;
  }

  pub popped_free : IsInList f x.0
  popped_free = Returned (Contains-permutation (x.0 ∷ returned_items g) (returned_items f) x.0 (IsPermutation-sym _ _ perm_of) (0, omega arith, refl))

  still : (j : ℕ) → IsInList g j → IsInList f j
  still j (Fresh above l) = Fresh (omega arith) (omega arith)
  still j (Returned c) = Returned (Contains-permutation (x.0 ∷ returned_items g) (returned_items f) j (IsPermutation-sym _ _ perm_of) (Contains-append_right (x.0 ∷ []) (returned_items g) j c))

  gone : IsInList g x.0 → ⊥
  gone (Fresh above l) = let b = was_below in absurd (omega arith)
  gone (Returned c) = not_again x.0 (returned_items g) distinct_of c

  left : (j : ℕ) → j ≢ x.0 → IsInList f j → IsInList g j
  left j ne (Fresh above l) = Fresh (omega arith) (omega arith)
  left j ne (Returned c) = Returned (one_of x.0 (returned_items g) j (Contains-permutation (returned_items f) (x.0 ∷ returned_items g) j perm_of c) ne)

  pub popped_takes : TakesListed f g x.0
  popped_takes = record { taken = gone; free = still; others = left }

  pub popped_least : IsUpperBound order x (heap_items f.returned) → (j : ℕ) → IsInList f j → x.0 ≤ j
  popped_least top j (Fresh above l) = let b = was_below in omega arith
  popped_least top j (Returned c) = All-contains (λ i. x.0 ≤ i) (returned_items f) j (All-from_recursion (λ i. x.0 ≤ i) (returned_items f) (bounded x (heap_items f.returned) top)) c

-- an empty list has no element
absent_from_none : (j : ℕ) (ns : List ℕ) → ns ≡ [] → Contains ns j → ⊥
absent_from_none j ns e c = let l : c.0 < length ns = c.1 in omega (arith, ap length e, l)

-- ---- nothing was given back, and the first fresh item is taken
module _ (f g : FreeList) (kept : IsFreeList f) (items : g.items ≡ f.items) (fresh : g.fresh ≡ f.fresh + 1) (same : heap_items g.returned ≡ heap_items f.returned) (none : heap_items f.returned ≡ []) (some : f.fresh < f.items) where
  nothing_back : (j : ℕ) → Contains (returned_items f) j → ⊥
  nothing_back j = absent_from_none j (returned_items f) (ap numbers none)

  nothing_now : (j : ℕ) → Contains (returned_items g) j → ⊥
  nothing_now j = absent_from_none j (returned_items g) (ap numbers (same ∙ none))

  fresh_gone : IsInList g f.fresh → ⊥
  fresh_gone (Fresh above l) = absurd (omega arith)
  fresh_gone (Returned c) = nothing_now f.fresh c

  fresh_still : (j : ℕ) → IsInList g j → IsInList f j
  fresh_still j (Fresh above l) = Fresh (omega arith) (omega arith)
  fresh_still j (Returned c) = absurd (nothing_now j c)

  fresh_left : (j : ℕ) → j ≢ f.fresh → IsInList f j → IsInList g j
  fresh_left j ne (Fresh above l) = Fresh (omega arith) (omega arith)
  fresh_left j ne (Returned c) = absurd (nothing_back j c)

  pub fresh_takes : (i : ℕ) → i ≡ f.fresh → TakesListed f g i
  fresh_takes i e = subst (λ (n : ℕ). TakesListed f g n) (sym e) (record { taken = fresh_gone; free = fresh_still; others = fresh_left })

pub fresh_free : (f : FreeList) (i : ℕ) → i ≡ f.fresh → f.fresh < f.items → IsInList f i
fresh_free f i e some = Fresh (omega arith) (omega arith)

-- ---- whether an item is free
pub none_free : (f : FreeList) → f.items ≤ f.fresh → heap_items f.returned ≡ [] → (i : ℕ) → IsInList f i → ⊥
none_free f full none i (Fresh above l) = absurd (omega arith)
none_free f full none i (Returned c) = absent_from_none i (returned_items f) (ap numbers none) c

first_number : (rs : List (Reverse ℕ)) → 0 < length rs → (i : ℕ) × Contains (numbers rs) i
first_number [] some = absurd (omega arith)
first_number (r ∷ rs) some = (r.0, (0, omega arith, refl))

pub returned_free : (f : FreeList) → 0 < length (heap_items f.returned) → (i : ℕ) × IsInList f i
returned_free f some = let first = first_number (heap_items f.returned) some in (first.0, Returned first.1)

-- ---- an item is given back
module _ (f : FreeList) (item : ℕ) (kept : IsFreeList f) (in_items : item < f.items) (taken : IsInList f item → ⊥) where
  given_below : item < f.fresh
  given_below = elim (cases_lt item f.fresh) [ inl below ↦ below | inr above ↦ absurd (taken (Fresh (omega arith) in_items)) ]

  given_distinct : IsDistinct eqb (item ∷ returned_items f)
  given_distinct = IsDistinct-cons eqb item (returned_items f) (apart_from item (returned_items f) (λ c. taken (Returned c))) kept.distinct

  given_all : All (λ i. i < f.fresh) (item ∷ returned_items f)
  given_all = All-cons (λ i. i < f.fresh) item (returned_items f) given_below kept.below

  -- there is room for one more
  pub gives_room : length (heap_items f.returned) < heap_capacity f.returned
  gives_room =
      let many = length-le_from_distinct_below (item ∷ returned_items f) f.fresh given_distinct (λ q t. All-contains (λ i. i < f.fresh) (item ∷ returned_items f) q given_all (Contains-from_any (λ x y e. eqb-true x y e) q (item ∷ returned_items f) t)) in
      omega (arith, many, kept.within, kept.room, length-map (heap_items f.returned) (λ (r : Reverse ℕ). r.0))

  module _ (g : FreeList) (items : g.items ≡ f.items) (fresh : g.fresh ≡ f.fresh) (perm : IsPermutation (record { 0 = item } ∷ heap_items f.returned) (heap_items g.returned)) where
    given_perm : IsPermutation (item ∷ returned_items f) (returned_items g)
    given_perm = IsPermutation-map (λ (r : Reverse ℕ). r.0) (record { 0 = item } ∷ heap_items f.returned) (heap_items g.returned) perm

    pub given_kept : IsHeap order (heap_items g.returned) → g.items ≤ heap_capacity g.returned → IsFreeList g
    given_kept ordered room = record {
      ordered = ordered;
      within = omega (arith, kept.within);
      below = subst (λ (n : ℕ). All (λ i. i < n) (returned_items g)) (sym fresh) (All-permutation (λ i. i < f.fresh) _ _ given_perm given_all);
      distinct = IsDistinct-IsPermutation eqb flips _ _ given_perm given_distinct;
      room = room;
    }

    stays : (j : ℕ) → IsInList f j → IsInList g j
    stays j (Fresh above l) = Fresh (omega arith) (omega arith)
    stays j (Returned c) = Returned (Contains-permutation (item ∷ returned_items f) (returned_items g) j given_perm (Contains-append_right (item ∷ []) (returned_items f) j c))

    no_other : (j : ℕ) → j ≢ item → IsInList g j → IsInList f j
    no_other j ne (Fresh above l) = Fresh (omega arith) (omega arith)
    no_other j ne (Returned c) = Returned (one_of item (returned_items f) j (Contains-permutation (returned_items g) (item ∷ returned_items f) j (IsPermutation-sym _ _ given_perm) c) ne)

    pub given_gives : GivesListed f g item
    given_gives = record {
      given = Returned (Contains-permutation (item ∷ returned_items f) (returned_items g) item given_perm (0, omega arith, refl));
      free = stays;
      others = no_other;
    }

-- ---- a new list
pub new_kept : (f : FreeList) → IsHeap order (heap_items f.returned) → heap_items f.returned ≡ [] → f.fresh ≡ 0 → f.items ≤ heap_capacity f.returned → IsFreeList f
unfolding IsDistinct
new_kept f ordered none fresh room = record {
  ordered = ordered;
  within = omega arith;
  below = subst (λ (ns : List ℕ). All (λ i. i < f.fresh) ns) (sym (ap numbers none)) (λ k d l. absurd (omega arith));
  distinct = subst (λ (ns : List ℕ). IsDistinct eqb ns) (sym (ap numbers none)) tt;
  room = room;
}

-- a free item is one of the table
pub free_below : (f : FreeList) (i : ℕ) → IsFreeList f → IsInList f i → i < f.items
free_below f i kept (Fresh above l) = l
free_below f i kept (Returned c) = let b = All-contains (λ j. j < f.fresh) (returned_items f) i kept.below c in omega (arith, kept.within, b)

-- ---- how many items are in use
-- no more were given back than were taken
pub returned_below : (f : FreeList) → IsFreeList f → length (returned_items f) ≤ f.fresh
returned_below f kept =
    length-le_from_distinct_below (returned_items f) f.fresh kept.distinct (λ q t. All-contains (λ i. i < f.fresh) (returned_items f) q kept.below (Contains-from_any (λ x y e. eqb-true x y e) q (returned_items f) t))

pub returned_many : (f : FreeList) → length (returned_items f) ≡ length (heap_items f.returned)
returned_many f = length-map (heap_items f.returned) (λ (r : Reverse ℕ). r.0)
