use Rattle.std.proofs.Common.{◌≡◌, length}
use Rattle.std.specs.Io.KnownBytes.{Keeps}
use Rattle.mc_script.proofs.line.next_byte.Given as goal

abbrev pub invariant-tries : goal.invariant-tries
invariant-tries g l = (length l.one ≡ 1) × Keeps (g.R.Read.remaining l.initial.reader) (g.R.Read.remaining l.reader)
