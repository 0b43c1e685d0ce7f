-- What a turn's call leaves of the writer.
use denote.RattleType.{RattleType}
use Rattle.std.specs.Borrow.{Fml, Lends, MutBor}
use Rattle.atomic_table.specs.Lent.{seat_with}
use Rattle.mc_shared.specs.Records.{WriterRecord}
use Rattle.mc_cache.specs.contracts.writer.Writer as writer
use Rattle.mc_shards.specs.contracts.lending.Turn.{the_row}

-- at the end of the loan, what was left is the turn's writer
abbrev pub LendsWriter : (V : RattleType) → MutBor (the_row V).Denot → MutBor WriterRecord → Fml
LendsWriter V s r = Lends (the_row V) (writer.the_row V) s r (λ w. record s.now { seat = seat_with s.now.seat 0 w })
