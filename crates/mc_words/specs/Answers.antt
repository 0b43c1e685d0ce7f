-- What each answer of a call means for the table before the call and after it.
use Rattle.std.specs.Prelude.{ℕ, ◌≡◌, ◌≢◌, ◌+◌, ◌*◌, ◌<◌, ◌≤◌, List, [], ◌∷◌, ◌++◌, length, Some, None, IsSome}
use Rattle.mc_words.specs.declared.history.Change.{Change}
use Rattle.mc_words.specs.declared.history.Change.TheVariants.{Put, Remove, Evict}
use Rattle.mc_words.specs.declared.shape.Shape.{Shape}
use Rattle.mc_words.specs.Chains.{IsLeastLength, NoChain}
use Rattle.mc_words.specs.History.{map_value, key_count}

-- a table between two calls: its words, the item at the hand, its history, and how many version changes were made
pub record Quiet (V : ℕ) : Type 0 where
  pub words : List ℕ
  pub hand : ℕ
  pub history : List (Change V)
  pub version_steps : ℕ

-- the history grew by these changes, and this many version changes were made
pub record Grows (V : ℕ) (s t : Quiet V) (new : List (Change V)) (steps : ℕ) : Type 0 where
  pub history : t.history ≡ s.history ++ new
  pub version_steps : t.version_steps ≡ s.version_steps + steps

-- a put could pass the limit of version changes
abbrev pub PutIsSpent : {V : ℕ} → Shape → Quiet V → Type 0
PutIsSpent sh s = sh.limit < s.version_steps + 2 * (sh.depth + 2)

-- a removal could pass it
abbrev pub RemoveIsSpent : {V : ℕ} → Shape → Quiet V → Type 0
RemoveIsSpent sh s = sh.limit < s.version_steps + 2

-- ---- the answers of a put of value v under key k
abbrev pub PutRefusedSpent : {V : ℕ} → Shape → Quiet V → Quiet V → Type 0
PutRefusedSpent sh s t = PutIsSpent sh s × (t ≡ s)

-- the key was there, and has a new value
pub record Renews (V : ℕ) (sh : Shape) (s t : Quiet V) (k : ℕ) (v : List ℕ) (at : ℕ) : Type 0 where
  pub unspent : PutIsSpent sh s → ⊥
  pub present : IsSome (map_value s.history k)
  pub grows : Grows V s t (Put k v ∷ []) 2
  pub hand : t.hand ≡ s.hand
  pub moment : at ≡ length t.history

-- ---- the answers of a put of value v under key k if the key's stamp is `since`
-- it could pass the limit: it is a renewal, and no move can be due
abbrev pub RenewalIsSpent : {V : ℕ} → Shape → Quiet V → Type 0
RenewalIsSpent sh s = sh.limit < s.version_steps + 2

abbrev pub IfRefusedSpent : {V : ℕ} → Shape → Quiet V → Quiet V → Type 0
IfRefusedSpent sh s t = RenewalIsSpent sh s × (t ≡ s)

pub record IfNotThere (V : ℕ) (sh : Shape) (s t : Quiet V) (k at : ℕ) : Type 0 where
  pub unspent : RenewalIsSpent sh s → ⊥
  pub absent : map_value s.history k ≡ None
  pub unchanged : t ≡ s
  pub moment : at ≡ length s.history

-- the key's last put was at another moment, `stands`
pub record IfChanged (V : ℕ) (sh : Shape) (s t : Quiet V) (k since stands : ℕ) : Type 0 where
  pub unspent : RenewalIsSpent sh s → ⊥
  pub value : List ℕ
  pub held : map_value s.history k ≡ Some (value ++ stands ∷ [])
  pub size : length value ≡ V
  pub other : stands ≢ since
  pub unchanged : t ≡ s

-- the key's last put was at that moment, and the key has a new value
pub record IfRenews (V : ℕ) (sh : Shape) (s t : Quiet V) (k since : ℕ) (v : List ℕ) (at : ℕ) : Type 0 where
  pub unspent : RenewalIsSpent sh s → ⊥
  pub value : List ℕ
  pub held : map_value s.history k ≡ Some (value ++ since ∷ [])
  pub size : length value ≡ V
  pub grows : Grows V s t (Put k v ∷ []) 2
  pub hand : t.hand ≡ s.hand
  pub moment : at ≡ length t.history

-- ---- the other answers of a put
-- the key was not there, and no chain leads to a hole
pub record RefusesPath (V : ℕ) (sh : Shape) (s t : Quiet V) (k : ℕ) : Type 0 where
  pub unspent : PutIsSpent sh s → ⊥
  pub absent : map_value s.history k ≡ None
  pub none : NoChain sh s.words k sh.depth
  pub unchanged : t ≡ s

-- the key was not there, a chain leads to a hole, and every item is in use
pub record NeedsItem (V : ℕ) (sh : Shape) (s : Quiet V) (k : ℕ) : Type 0 where
  pub unspent : PutIsSpent sh s → ⊥
  pub absent : map_value s.history k ≡ None
  pub count : ℕ
  pub within : count ≤ sh.depth
  pub least : IsLeastLength sh s.words k count
  pub full : key_count s.history ≡ sh.items

-- no item is free, and none is taken from another key
pub record RefusesItem (V : ℕ) (sh : Shape) (s t : Quiet V) (k : ℕ) : Type 0 where
  pub needs : NeedsItem V sh s k
  pub unchanged : t ≡ s

-- no item could be taken from another key: at most the hand has gone on
pub record RefusesAll (V : ℕ) (sh : Shape) (s t : Quiet V) (k : ℕ) : Type 0 where
  pub needs : NeedsItem V sh s k
  pub unchanged : t ≡ record s { hand = t.hand }

-- another key was taken out, and the key was put with its item after no more moves than the shortest chain needs
pub record Replaces (V : ℕ) (sh : Shape) (s t : Quiet V) (k : ℕ) (v : List ℕ) (at moves evicted : ℕ) : Type 0 where
  pub needs : NeedsItem V sh s k
  pub few : moves ≤ needs.count
  pub was : IsSome (map_value s.history evicted)
  pub grows : Grows V s t (Evict evicted ∷ Put k v ∷ []) (4 + 2 * moves)
  pub moment : at ≡ length t.history

-- the key was not there, and is now, after as few moves as could be
pub record Stores (V : ℕ) (sh : Shape) (s t : Quiet V) (k : ℕ) (v : List ℕ) (at moves : ℕ) : Type 0 where
  pub unspent : PutIsSpent sh s → ⊥
  pub absent : map_value s.history k ≡ None
  pub within : moves ≤ sh.depth
  pub least : IsLeastLength sh s.words k moves
  pub room : key_count s.history < sh.items
  pub grows : Grows V s t (Put k v ∷ []) (2 + 2 * moves)
  pub hand : t.hand ≡ s.hand
  pub moment : at ≡ length t.history

-- ---- the answers of a removal of key k
abbrev pub RemoveRefusedSpent : {V : ℕ} → Shape → Quiet V → Quiet V → Type 0
RemoveRefusedSpent sh s t = RemoveIsSpent sh s × (t ≡ s)

pub record Removes (V : ℕ) (sh : Shape) (s t : Quiet V) (k at : ℕ) : Type 0 where
  pub unspent : RemoveIsSpent sh s → ⊥
  pub present : IsSome (map_value s.history k)
  pub grows : Grows V s t (Remove k ∷ []) 2
  pub hand : t.hand ≡ s.hand
  pub moment : at ≡ length t.history

pub record FindsNothing (V : ℕ) (sh : Shape) (s t : Quiet V) (k at : ℕ) : Type 0 where
  pub unspent : RemoveIsSpent sh s → ⊥
  pub absent : map_value s.history k ≡ None
  pub unchanged : t ≡ s
  pub moment : at ≡ length s.history

-- ---- the answers of a lookup of key k
pub record Finds (V : ℕ) (s t : Quiet V) (k : ℕ) (v : List ℕ) (at since : ℕ) : Type 0 where
  pub value : map_value s.history k ≡ Some (v ++ since ∷ [])
  pub unchanged : t ≡ s
  pub moment : at ≡ length s.history

pub record Misses (V : ℕ) (s t : Quiet V) (k at : ℕ) : Type 0 where
  pub absent : map_value s.history k ≡ None
  pub unchanged : t ≡ s
  pub moment : at ≡ length s.history
