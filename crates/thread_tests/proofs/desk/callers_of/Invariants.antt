use Rattle.std.proofs.Common.{◌≡◌, length}
use Rattle.std.specs.List.{All}
use Rattle.thread_tests.proofs.desk.callers_of.Given as goal

abbrev pub invariant-loop-pass : goal.invariant-loop-pass
invariant-loop-pass l = record {
  readers : All (λ r. r.of ≡ l.cache) l.readers.items;
  callers : All (λ k. k.pass.of ≡ l.cache) l.callers.items;
}

abbrev pub decreases-loop-pass : goal.decreases-loop-pass
decreases-loop-pass l = length l.readers.items
