-- What a turn's call leaves of the writer.
use denote.RattleType.{RattleType}
use Rattle.std.specs.Borrow.{Fml, Lends, MutBor}
use Rattle.mc_shared.specs.Records.{WriterRecord}
use Rattle.mc_cache.specs.contracts.desk.turns.Turn.{the_row}
use Rattle.mc_cache.specs.contracts.writer.Writer as writer

-- at the end of the loan, what was left is the turn's writer
abbrev pub LendsWriter : (V : RattleType) → MutBor (the_row V).Denot → MutBor WriterRecord → Fml
LendsWriter V s r = Lends (the_row V) (writer.the_row V) s r (λ w. record s.now { writer = w })
