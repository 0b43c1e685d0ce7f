-- Which items a list of free items holds.
use Rattle.std.specs.Prelude.{ℕ, ◌≢◌, ◌<◌, ◌≤◌, All, Contains, List, map, nat_eq}
use Rattle.std.specs.Ordering.{nat_cmp}
use Rattle.std.specs.BinaryHeap.{IsHeap, heap_items, heap_capacity}
use Rattle.std.specs.List.{IsDistinct}
use Rattle.std.specs.declared.cmp.Reverse.{Reverse}
use Rattle.mc_search.specs.declared.free.FreeList.{FreeList}

-- the items that were given back
abbrev pub returned_items : FreeList → List ℕ
returned_items f = map (λ (r : Reverse ℕ). r.0) (heap_items f.returned)

-- the item is free: it was never taken, or it was given back
pub data IsInList : FreeList → ℕ → Type 0 where
  Fresh : {f : FreeList} {i : ℕ} → f.fresh ≤ i → i < f.items → IsInList f i
  Returned : {f : FreeList} {i : ℕ} → Contains (returned_items f) i → IsInList f i

-- items were given back once each, all of them taken before, and there is room for all items
pub record IsFreeList (f : FreeList) : Type 0 where
  pub ordered : IsHeap (λ x y. nat_cmp y.0 x.0) (heap_items f.returned)
  pub within : f.fresh ≤ f.items
  pub below : All (λ i. i < f.fresh) (returned_items f)
  pub distinct : IsDistinct nat_eq (returned_items f)
  pub room : f.items ≤ heap_capacity f.returned

-- the item is no longer free, and each other is as it was
pub record TakesListed (old new : FreeList) (i : ℕ) : Type 0 where
  pub taken : IsInList new i → ⊥
  pub free : (j : ℕ) → IsInList new j → IsInList old j
  pub others : (j : ℕ) → j ≢ i → IsInList old j → IsInList new j

-- the item is free, and each other is as it was
pub record GivesListed (old new : FreeList) (i : ℕ) : Type 0 where
  pub given : IsInList new i
  pub free : (j : ℕ) → IsInList old j → IsInList new j
  pub others : (j : ℕ) → j ≢ i → IsInList new j → IsInList old j
