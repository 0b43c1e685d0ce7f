use Rattle.std.proofs.Common.{◌≤◌, length, take}
use Rattle.std.specs.Io.KnownBytes.{Appends}
use Rattle.mc_script.proofs.output.send.Given as goal

abbrev pub invariant-writes : goal.invariant-writes
invariant-writes g l = (l.sent ≤ length l.bytes) × Appends (g.W.Write.contents l.fn.to) (g.W.Write.contents l.to) (take l.sent l.bytes)
