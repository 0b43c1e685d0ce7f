-- The turns that a handle holds.
use Rattle.std.specs.Prelude.{ℕ, ◌≡◌, ◌++◌, [], ◌∷◌, All, List, map}
use Rattle.mc_shared.specs.Records.{ReaderRecord, WriterRecord}
use Rattle.mc_shards.specs.Holding.{Holding}
use Rattle.mc_shards.specs.Lending.{HasTaken, Lock}
use Rattle.mc_shards.specs.declared.lending.Turn.{Turn}

-- the writer that a seat has, which was that of its key at first
abbrev pub writer_in : WriterRecord → List (ℕ × WriterRecord) → WriterRecord
writer_in first [] = first
writer_in first (slot ∷ slots) = slot.1

abbrev pub writer_of : {V : ℕ} → Turn V → WriterRecord
writer_of turn = writer_in turn.seat.me.0.value turn.seat.me.1

abbrev pub lock_of : {V : ℕ} → Turn V → Lock
lock_of turn = record { key = turn.seat.me.0; id = turn.seat.table_id }

abbrev pub writers_of : {V : ℕ} → List (Turn V) → List WriterRecord
writers_of turns = map writer_of turns

abbrev pub locks_of : {V : ℕ} → List (Turn V) → List Lock
locks_of turns = map lock_of turns

-- each of the turns has its writer
abbrev pub HaveWriters : {V : ℕ} → List (Turn V) → Type 0
HaveWriters {V} turns = All (λ turn. HasTaken V turn.seat.me) turns

-- the turns of the first locks of this list, and of no others
pub record HaveTaken (V : ℕ) (locks : List Lock) (turns : List (Turn V)) : Type 0 where
  pub others : List Lock
  pub all : locks ≡ locks_of turns ++ others
  pub writers : HaveWriters turns

abbrev pub holding : {V : ℕ} → List ReaderRecord → List (Turn V) → Holding
holding rs turns = record { readers = rs; writers = writers_of turns; locks = locks_of turns }
