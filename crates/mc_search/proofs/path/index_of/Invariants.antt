use Rattle.std.proofs.Common.{Contains, take}
use Rattle.mc_search.proofs.path.index_of.Given as goal

abbrev pub invariant-loop-n : goal.invariant-loop-n
invariant-loop-n l = Contains (take l.n l.places) l.place → ⊥
