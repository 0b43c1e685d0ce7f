-- What clauses see of shards, and of a pass: a list of the records of its readers, one of each shard.
use Rattle.std.specs.Prelude.{ℕ, ◌≡◌, List, [], ◌∷◌, Some, length, map, slice_get, slice_set}
use Rattle.mc_words.specs.Keys.{shard_of}
use Rattle.mc_words.specs.declared.history.Reply.{Reply}
use Rattle.mc_words.specs.declared.shape.Shape.{Shape}
use Rattle.mc_reader.specs.Records.{HasLooked}
use Rattle.mc_shared.specs.Records.{Opening, ReaderRecord}
use Rattle.mc_shards.specs.Lending.{Lock}

-- which tables they are, the shape that each of them has, and the locks around their writers
pub record Sharded : Type 0 where
  pub shape : Shape
  pub tables : List Opening
  pub locks : List Lock

-- the shard of a key
abbrev pub shard_in : Sharded → ℕ → ℕ
shard_in s k = shard_of s.shape.mix (length s.tables) k

-- the readers are those of the tables, in their order
abbrev pub ArePassOf : Sharded → List ReaderRecord → Type 0
ArePassOf s rs = map (λ r. r.of) rs ≡ s.tables

-- the two lists differ at this place alone, where one value became another, and this holds of the two
pub record ChangesAt {A : Type 0} (n : ℕ) (xs ys : List A) (Goes : A → A → Type 0) : Type 0 where
  pub before : A
  pub after : A
  pub was : slice_get xs n ≡ Some before
  pub is : ys ≡ slice_set xs n after
  pub goes : Goes before after

-- these keys were looked up in their order, each by the record of its shard, with these replies, and nothing else changed
abbrev pub HaveLookedAt : (V : ℕ) → Sharded → List ℕ → List ReaderRecord → List ReaderRecord → List (Reply V) → Type 0
HaveLookedAt V of [] old new [] = new ≡ old
HaveLookedAt V of (k ∷ ks) old new (r ∷ rs) = (mid : List ReaderRecord) × ChangesAt (shard_in of k) old mid (λ a b. HasLooked V of.shape k a b r) × HaveLookedAt V of ks mid new rs
HaveLookedAt V of [] old new (r ∷ rs) = ⊥
HaveLookedAt V of (k ∷ ks) old new [] = ⊥
