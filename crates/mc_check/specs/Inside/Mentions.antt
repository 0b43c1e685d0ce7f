-- The changes of a history in the order of their keys.
use Rattle.std.specs.Prelude.{ℕ, ◌≡◌, ◌+◌, ◌*◌, ◌^◌, ◌<◌, ◌≤◌, List, Some, length, slice_get, slice_index_or}
use Rattle.std.specs.List.{Contains}
use Rattle.std.specs.List.Sorted.{IsNonDecreasingBy}
use Rattle.mc_words.specs.declared.history.Change.{Change}
use Rattle.mc_check.specs.declared.mentions.Mention.{Mention}
use Rattle.mc_check.specs.Changes.{key_in}

-- the place of a mention in the order: by key, and then by moment
abbrev pub rank : ℕ → ℕ → ℕ
rank key moment = key * 2 ^ 64 + moment

abbrev pub rank_of : Mention → ℕ
rank_of m = rank m.key m.moment

abbrev pub mention : {V : ℕ} → Change V → ℕ → Mention
mention c i = record { key = key_in c; moment = i }

-- the first n changes are mentioned in the order of time
pub record AreInTime {V : ℕ} (h : List (Change V)) (n : ℕ) (ms : List Mention) : Type 0 where
  pub count : length ms ≡ n
  pub at : (i : ℕ) (c : Change V) (d : Mention) → i < n → slice_get h i ≡ Some c → slice_index_or ms i d ≡ mention c i

-- each mention names a change, and each change is mentioned
pub record MentionAll {V : ℕ} (h : List (Change V)) (ms : List Mention) : Type 0 where
  pub small : length h < 2 ^ 64
  pub named : (m : Mention) → Contains ms m → (c : Change V) × (slice_get h m.moment ≡ Some c) × (key_in c ≡ m.key)
  pub all : (i : ℕ) (c : Change V) → slice_get h i ≡ Some c → Contains ms (mention c i)

-- they are sorted besides
pub record AreMentionsOf {V : ℕ} (h : List (Change V)) (ms : List Mention) : Type 0 where
  pub mentioned : MentionAll h ms
  pub sorted : IsNonDecreasingBy rank_of ms

-- the first p mentions come before this place in the order, and the others don't
pub record IsBound (ms : List Mention) (bound p : ℕ) : Type 0 where
  pub within : p ≤ length ms
  pub below : (i : ℕ) (d : Mention) → i < p → rank_of (slice_index_or ms i d) < bound
  pub above : (i : ℕ) (d : Mention) → p ≤ i → i < length ms → bound ≤ rank_of (slice_index_or ms i d)
