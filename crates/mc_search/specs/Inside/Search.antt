-- What the search keeps while it runs: the queue as a tree of displacements, and how far it was looked at.
use Rattle.std.specs.Prelude.{ℕ, ◌≡◌, ◌≢◌, ◌+◌, ◌*◌, ◌≤◌, ◌<◌, ◌⊎◌, List, [], ◌∷◌, ◌++◌, length, Bool, true, false}
use Rattle.std.proofs.Common.{get_or}
use Rattle.mc_words.specs.declared.place.Place.{Place}
use Rattle.mc_words.specs.declared.shape.Shape.{Shape}
use Rattle.mc_words.specs.Chains.{IsHole, IsOccupied, IsChain, beyond}
use Rattle.mc_words.specs.Keys.{alternate, first_of, second_of, IsBucketOf, tag_in}
use Rattle.mc_words.specs.Places.{slot}
use Rattle.mc_search.specs.declared.queue.Entry.{Entry}
use Rattle.mc_search.specs.Inside.Readable.{IsFull}

-- an entry that says nothing
abbrev pub blank : Entry
blank = record { bucket = 0; from = 0; slot = 0; depth = 0 }

-- the i-th entry
unfoldable pub entry_at : List Entry → ℕ → Entry
entry_at q i = get_or q i blank

-- its bucket
abbrev pub bucket_at : List Entry → ℕ → ℕ
bucket_at q i = (entry_at q i).bucket

-- its depth
abbrev pub depth_at : List Entry → ℕ → ℕ
depth_at q i = (entry_at q i).depth

-- the queue as a set of buckets, and the marks of the buckets that are in it
pub record IsQueue (q : List Entry) (seen : List Bool) : Type 0 where
  pub in_table : (i : ℕ) → i < length q → bucket_at q i < length seen
  pub apart : (i k : ℕ) → i < k → k < length q → bucket_at q i ≢ bucket_at q k
  pub count : length q ≤ length seen
  pub marks : (i : ℕ) → i < length q → get_or seen (bucket_at q i) false ≡ true
  pub backed : (b : ℕ) → get_or seen b false ≡ true → (k : ℕ) × (k < length q) × (bucket_at q k ≡ b)

-- no bucket is marked
abbrev pub IsUnmarked : List Bool → Type 0
IsUnmarked seen = (b : ℕ) → get_or seen b false ≡ false

-- the entry joined the queue, or its bucket was there
abbrev pub IsAdded : List Entry → Entry → List Entry → Bool → Type 0
IsAdded q e r true = r ≡ q ++ e ∷ []
IsAdded q e r false = (r ≡ q) × ((k : ℕ) × (k < length q) × (bucket_at q k ≡ e.bucket))

-- no queued bucket has an empty slot
abbrev pub AreFull : Shape → List ℕ → List Entry → Type 0
AreFull sh w q = (i : ℕ) → i < length q → IsFull sh w (bucket_at q i)

-- the bucket to which the item in slot j of bucket b can move
abbrev pub next_bucket : Shape → List ℕ → ℕ → ℕ → ℕ
next_bucket sh w b j = alternate sh b (tag_in (slot sh w (4 * b + j)))

-- an entry comes from a slot of an earlier one
pub record ComesFrom (sh : Shape) (w : List ℕ) (q : List Entry) (i : ℕ) (e : Entry) : Type 0 where
  pub earlier : e.from < i
  pub in_bucket : e.slot < 4
  pub taken : slot sh w (4 * bucket_at q e.from + e.slot) ≢ 0
  pub leads : e.bucket ≡ next_bucket sh w (bucket_at q e.from) e.slot
  pub deeper : e.depth ≡ depth_at q e.from + 1

-- an entry of a bucket of the key
pub record IsStart (sh : Shape) (k : ℕ) (e : Entry) : Type 0 where
  pub top : e.depth ≡ 0
  pub of_key : IsBucketOf sh k e.bucket

-- an entry belongs to a bucket of the key, or comes from an earlier one
abbrev pub Origin : Shape → List ℕ → ℕ → List Entry → ℕ → Entry → Type 0
Origin sh w k q i e = IsStart sh k e ⊎ ComesFrom sh w q i e

-- each entry comes from a bucket of the key, and depths never fall
pub record IsTree (sh : Shape) (w : List ℕ) (k : ℕ) (q : List Entry) : Type 0 where
  pub origin : (i : ℕ) → i < length q → Origin sh w k q i (entry_at q i)
  pub deep : (i : ℕ) → i < length q → depth_at q i ≤ sh.depth
  pub sorted : (i m : ℕ) → i ≤ m → m < length q → depth_at q i ≤ depth_at q m

-- b is in the queue, at depth m or before
abbrev pub IsNear : List Entry → ℕ → ℕ → Type 0
IsNear q b m = (k : ℕ) × (k < length q) × (bucket_at q k ≡ b) × (depth_at q k ≤ m)

-- no entry is deeper than m
abbrev pub IsUpTo : List Entry → ℕ → Type 0
IsUpTo q m = (k : ℕ) → k < length q → depth_at q k ≤ m

-- the first t slots were followed (slot j of the i-th bucket is the slot 4i + j)
pub record IsFollowed (sh : Shape) (w : List ℕ) (k t : ℕ) (q : List Entry) : Type 0 where
  pub from_first : IsNear q (first_of sh k) 0
  pub from_second : IsNear q (second_of sh k) 0
  pub followed : (i j : ℕ) → i < length q → j < 4 → 4 * i + j < t → IsNear q (next_bucket sh w (bucket_at q i) j) (depth_at q i + 1)

-- the search before the f-th entry
pub record IsSearching (sh : Shape) (w : List ℕ) (k f : ℕ) (q : List Entry) : Type 0 where
  pub tree : IsTree sh w k q
  pub slots : IsFollowed sh w k (4 * f) q
  pub level : f < length q → IsUpTo q (depth_at q f + 1)

-- the search among the slots of the f-th entry, x
pub record IsExpanding (sh : Shape) (w : List ℕ) (k f : ℕ) (x : Entry) (t : ℕ) (q : List Entry) : Type 0 where
  pub tree : IsTree sh w k q
  pub slots : IsFollowed sh w k t q
  pub level : IsUpTo q (x.depth + 1)
  pub queued : f < length q
  pub front : entry_at q f ≡ x

-- the entry at which the search ended, and a hole in its bucket
pub record IsFound (sh : Shape) (w : List ℕ) (k : ℕ) (q : List Entry) (i : ℕ) (h : Place) : Type 0 where
  pub tree : IsTree sh w k q
  pub queued : i < length q
  pub hole : IsHole sh w h
  pub in_bucket : h.bucket ≡ bucket_at q i
  pub least : (ps : List Place) (g : Place) → IsChain sh w k ps g → depth_at q i ≤ length ps

-- from the i-th entry on along places that lead to later and later entries
abbrev pub Follows : Shape → List ℕ → List Entry → ℕ → List Place → Place → Type 0
Follows sh w q i [] h = IsHole sh w h × (h.bucket ≡ bucket_at q i)
Follows sh w q i (p ∷ ps) h = IsOccupied sh w p × (p.bucket ≡ bucket_at q i) × ((j : ℕ) × (i < j) × (j < length q) × (beyond sh w p ≡ bucket_at q j) × Follows sh w q j ps h)

-- an entry below the starts comes from an earlier entry, one level up
abbrev pub GoesBack : List Entry → Type 0
GoesBack q = (i : ℕ) → i < length q → 0 < depth_at q i → ((entry_at q i).from < i) × (depth_at q i ≡ depth_at q (entry_at q i).from + 1)
