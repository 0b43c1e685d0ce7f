-- The rule of the word of a shard's writer, and what a seat has after it took the writer.
use Rattle.std.specs.Prelude.{ℕ, ◌≡◌, ◌<◌, [], ◌∷◌, length, slice_index}
use mathlib.Core.Option.{some}
use lib.ListN.{get_elem?}
use Rattle.atomic_table.specs.Seated.{TableId}
use Rattle.atomic_table.specs.Table.{Me, State}
use Rattle.std.specs.declared.snapshot.Snapshot.{Snapshot}
use Rattle.mc_shared.specs.Records.{Opening, WriterRecord}
use Rattle.mc_cache.specs.Resting.{IsFit}

-- while the word is 0, the writer is there
pub record IsKept (V : ℕ) (o : Opening) (s : State WriterRecord (Snapshot WriterRecord)) : Type 0 where
  pub wide : 0 < length s.words
  pub there : slice_index s.words 0 ≡ 0 → (w : WriterRecord) × (get_elem? s.homes 0 ≡ some (some w)) × IsFit V o w

-- a lock around a shard's writer: its key has that writer as it was at first, and no other lock has its number
pub record Lock : Type 0 where
  pub key : Snapshot WriterRecord
  pub id : TableId

-- the table of the lock's writer
abbrev pub table_of : Lock → Opening
table_of lock = lock.key.value.of

-- the seat has the writer of its key's table, and nothing else
abbrev pub HasTaken : (V : ℕ) → Me WriterRecord (Snapshot WriterRecord) → Type 0
HasTaken V me = (w : WriterRecord) × (me.1 ≡ (0, w) ∷ []) × IsFit V me.0.value.of w
