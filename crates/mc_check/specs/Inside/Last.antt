-- The last change of a key before a moment.
use Rattle.std.specs.Prelude.{ℕ, ◌≡◌, ◌+◌, ◌<◌, ◌≤◌, List, Option, Some, None, slice_get}
use Rattle.mc_words.specs.declared.history.Change.{Change}
use Rattle.mc_words.specs.declared.history.Change.TheVariants.{Put, Remove, Evict}
use Rattle.mc_words.specs.declared.history.Reply.{Reply}
use Rattle.mc_words.specs.declared.history.Reply.TheVariants.{Found, Absent, Busy}
use Rattle.mc_check.specs.Changes.{key_in}

-- how many changes the reply names
abbrev pub moment_in : {V : ℕ} → Reply V → ℕ
moment_in (Found v at since) = at
moment_in (Absent at) = at
moment_in Busy = 0

-- the value that the key has after the change
abbrev pub value_in : {V : ℕ} → Change V → Option (List ℕ)
value_in (Put k v) = Some v
value_in (Remove k) = None
value_in (Evict k) = None

-- none of the changes from lo to hi is one of the key
abbrev pub AreOthers : {V : ℕ} → List (Change V) → ℕ → ℕ → ℕ → Type 0
AreOthers {V} h k lo hi = (j : ℕ) (c : Change V) → lo ≤ j → j < hi → slice_get h j ≡ Some c → key_in c ≡ k → ⊥

-- the change at this place is the last of the key among the first n; if there is no place, none of them is one of the key
abbrev pub IsLast : {V : ℕ} → List (Change V) → ℕ → ℕ → Option ℕ → Type 0
IsLast h k n None = AreOthers h k 0 n
IsLast {V} h k n (Some i) = (i < n) × ((c : Change V) × (slice_get h i ≡ Some c) × (key_in c ≡ k)) × AreOthers h k (i + 1) n

-- the change at this place is number `since` of the history, counted from 1
abbrev pub IsStampOf : Option ℕ → ℕ → Type 0
IsStampOf None since = ⊥
IsStampOf (Some i) since = i + 1 ≡ since

-- the value of a key after its last change
abbrev pub value_after : {V : ℕ} → List (Change V) → Option ℕ → Option (List ℕ)
value_after h None = None
value_after {V} h (Some i) = told (slice_get h i)
  where
    told : Option (Change V) → Option (List ℕ)
    told None = None
    told (Some c) = value_in c
