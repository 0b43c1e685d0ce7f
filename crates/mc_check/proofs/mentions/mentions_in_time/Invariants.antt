use Rattle.mc_check.specs.Inside.Mentions.{AreInTime}
use Rattle.mc_check.proofs.mentions.mentions_in_time.Given as goal

abbrev pub invariant-loop-n : goal.invariant-loop-n
invariant-loop-n g l = AreInTime l.fn.history l.n l.mentions.items
