-- A list from whose end elements were taken.
use Rattle.std.specs.Prelude.{ℕ, ◌≡◌, ◌<◌, ◌≤◌, List, length, slice_index_or}

-- what is left begins the list
abbrev pub AreFirst : {X : Type 0} → List X → List X → Type 0
AreFirst {X} xs all = (n : ℕ) (d : X) → n < length xs → slice_index_or xs n d ≡ slice_index_or all n d

-- and this is known of each element after it
abbrev pub AreRest : {X : Type 0} → (X → Type 0) → List X → List X → Type 0
AreRest {X} P xs all = (n : ℕ) (d : X) → length xs ≤ n → n < length all → P (slice_index_or all n d)
