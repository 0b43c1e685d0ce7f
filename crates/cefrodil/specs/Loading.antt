-- Handles that were opened with entries.
use Rattle.std.specs.Prelude.{ℕ, ◌≡◌, ◌⊎◌, ◌*◌, ◌+◌, ◌==◌, [], ◌∷◌, All, EachIndex, List, if◌then◌else◌, length, slice_index}
use Rattle.mc_plan.specs.declared.answer.Why.{Why}
use Rattle.mc_plan.specs.declared.answer.Why.TheVariants as why
use Rattle.mc_words.specs.Places.{IsWidth}
use Rattle.mc_shared.specs.Records.{ReaderRecord}
use Rattle.mc_shards.specs.Sharded.{Sharded}
use Rattle.mc_door.specs.Loading.{HaveSeenLoads, entries_in}
use Rattle.cefrodil.specs.Openings.{IsPassAt}
use Rattle.cefrodil.specs.RawShapes.{GoAsAsked, IsShapeOf}
use Rattle.cefrodil.specs.declared.shape.RawShape.{RawShape}
use Rattle.cefrodil.specs.declared.raw_handle.RawHandle.{RawHandle}
use Rattle.mc_door.specs.declared.status.TheConstants.{OK, COUNT, NO_ITEM, NO_PATH, SPENT}

abbrev pub left_status : Why → ℕ
left_status why.NoPath = NO_PATH
left_status why.NoItem = NO_ITEM
left_status why.Spent = SPENT

-- the status of the entry with this index: why it was left, if it was
abbrev pub entry_status : List (ℕ × Why) → ℕ → ℕ
entry_status [] i = OK
entry_status (l ∷ left) i = if l.0 == i then left_status l.1 else entry_status left i

-- the entries have this many words in all: a key each, and a value
abbrev pub AreEntries : ℕ → ℕ → ℕ → Type 0
AreEntries words entry_words count = entry_words ≡ count * (1 + words)

-- passes of `shards` new shards, each of the requested shape and policy. Each pass has seen the puts of these entries, except those that were left, and
-- the statuses say what became of each
pub record AreLoaded (raw : RawShape) (shards words : ℕ) (entries statuses : List ℕ) (handles : List RawHandle) : Type 0 where
  pub sharded : Sharded
  pub records : List (List ReaderRecord)
  pub left : List (ℕ × Why)
  pub shape : IsShapeOf raw sharded.shape
  pub count : length sharded.tables ≡ shards
  pub policy : GoAsAsked raw sharded.tables
  pub fits : AreEntries words (length entries) (length statuses)
  pub loaded : HaveSeenLoads words sharded (entries_in words (length statuses) entries) left records
  pub has_passes : All (IsPassAt sharded words records) handles
  pub told : EachIndex statuses (λ i. slice_index statuses i ≡ entry_status left i)

-- the first fault: of the width, then of the number of words of the entries, then the others, as when a cache is opened without entries
abbrev pub RefusesWith : ℕ → ℕ → ℕ → (ℕ → Type 0) → ℕ → Type 0
RefusesWith words entry_words count Refuses status =
    ((status ≡ COUNT) × IsWidth words × (¬ AreEntries words entry_words count)) ⊎
    ((IsWidth words → AreEntries words entry_words count) × Refuses status)
