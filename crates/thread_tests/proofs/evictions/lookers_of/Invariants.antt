use Rattle.std.proofs.Common.{◌≡◌, length}
use Rattle.std.specs.List.{All}
use Rattle.thread_tests.proofs.evictions.lookers_of.Given as goal

abbrev pub invariant-loop-reader : goal.invariant-loop-reader
invariant-loop-reader l = record {
  readers : All (λ r. r.of ≡ l.cache) l.readers.items;
  lookers : All (λ k. k.reader.of ≡ l.cache) l.lookers.items;
}

abbrev pub decreases-loop-reader : goal.decreases-loop-reader
decreases-loop-reader l = length l.readers.items
