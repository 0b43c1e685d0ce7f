-- Changes, the map after them, which histories are legal, and which answers are true.
use Rattle.std.specs.Prelude.{ℕ, ◌≡◌, ◌≤◌, ◌==◌, ◌<◌, ◌+◌, ◌^◌, All, if◌then◌else◌, List, [], ◌∷◌, ◌++◌, length, take, slice_index, Option, Some, None, IsSome}
use Rattle.std.specs.Map.{lookup}
use Rattle.std.specs.Option.{option_map}
use Rattle.mc_words.specs.declared.history.Change.{Change}
use Rattle.mc_words.specs.declared.history.Change.TheVariants.{Put, Remove, Evict}
use Rattle.mc_words.specs.declared.history.Reply.{Reply}
use Rattle.mc_words.specs.declared.history.Reply.TheVariants.{Found, Absent, Busy}

-- the pairs without that of the key
abbrev pub map_without : ℕ → List (ℕ × List ℕ) → List (ℕ × List ℕ)
map_without k [] = []
map_without k (e ∷ es) = if k == e.0 then map_without k es else e ∷ map_without k es

-- the map after one change more, the one that is number n of its history, counted from 1. The map holds for a key its payload: its
-- value, and after it the moment of the put
abbrev pub map_after : {V : ℕ} → ℕ → List (ℕ × List ℕ) → Change V → List (ℕ × List ℕ)
map_after n m (Put k v) = (k, v ++ n ∷ []) ∷ map_without k m
map_after n m (Remove k) = map_without k m
map_after n m (Evict k) = map_without k m

-- the map after these changes, of which the first is number n
abbrev pub map_from : {V : ℕ} → ℕ → List (ℕ × List ℕ) → List (Change V) → List (ℕ × List ℕ)
map_from n m [] = m
map_from n m (c ∷ cs) = map_from (n + 1) (map_after n m c) cs

-- the value in the words that an item keeps after its key: the first V of them
abbrev pub value_of : ℕ → List ℕ → List ℕ
value_of V xs = take V xs

-- the stamp in them: the word after the value, the moment of the key's last put
abbrev pub since_of : ℕ → List ℕ → ℕ
since_of V xs = slice_index xs V

-- what the map of the history holds of the key: a payload
unfoldable pub map_value : {V : ℕ} → List (Change V) → ℕ → Option (List ℕ)
map_value h k = lookup (λ q. k == q) (map_from 1 [] h)

-- the value in it, without the stamp
abbrev pub value_held : {V : ℕ} → List (Change V) → ℕ → Option (List ℕ)
value_held {V} h k = option_map (value_of V) (map_value h k)

-- how many keys the map of the history has
unfoldable pub key_count : {V : ℕ} → List (Change V) → ℕ
key_count h = length (map_from 1 [] h)

-- a key that is taken out is present
abbrev pub MayFollow : {V : ℕ} → List (ℕ × List ℕ) → Change V → Type 0
MayFollow m (Put k v) = Unit {0}
MayFollow m (Remove k) = IsSome (lookup (λ q. k == q) m)
MayFollow m (Evict k) = IsSome (lookup (λ q. k == q) m)

abbrev pub LegalFrom : {V : ℕ} → ℕ → ℕ → List (ℕ × List ℕ) → List (Change V) → Type 0
LegalFrom c n m [] = length m ≤ c
LegalFrom c n m (x ∷ xs) = (length m ≤ c) × MayFollow m x × LegalFrom c (n + 1) (map_after n m x) xs

-- each key that is taken out was present, and no front of the history has more than c keys
unfoldable pub IsLegal : {V : ℕ} → ℕ → List (Change V) → Type 0
IsLegal c h = LegalFrom c 1 [] h

-- a key or a word of a value
abbrev pub IsWord : ℕ → Type 0
IsWord x = x < 2 ^ 64

-- the numbers of a change are in their ranges
abbrev pub IsChange : {V : ℕ} → Change V → Type 0
IsChange {V} (Put k v) = IsWord k × (length v ≡ V) × All IsWord v
IsChange (Remove k) = IsWord k
IsChange (Evict k) = IsWord k

-- the reply is what the map held after the changes that it names
abbrev pub IsTrueAnswer : {V : ℕ} → List (Change V) → ℕ → Reply V → Type 0
IsTrueAnswer h k (Found v at since) = (at ≤ length h) × (map_value (take at h) k ≡ Some (v ++ since ∷ []))
IsTrueAnswer h k (Absent at) = (at ≤ length h) × (map_value (take at h) k ≡ None)
IsTrueAnswer h k Busy = Unit {0}
