use Rattle.mc_load.specs.Inside.Refusals.{AreTriesLetThrough}
use Rattle.mc_load.proofs.refusing.refused_try.Given as goal

abbrev pub invariant-loop-n : goal.invariant-loop-n
invariant-loop-n g l = AreTriesLetThrough l.fn.turn_threads l.n
