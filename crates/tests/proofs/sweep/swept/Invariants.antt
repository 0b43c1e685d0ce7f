use Rattle.std.specs.Prelude.{List}
use Rattle.mc_search.specs.Sweeps.{Swept, HasSwept}
use Rattle.tests.proofs.sweep.swept.Given as goal

abbrev pub invariant-loop-bit : goal.invariant-loop-bit
invariant-loop-bit l = (rs : List Swept) × HasSwept l.sweep l.items l.hand rs
