use Rattle.std.proofs.Common.{◌≡◌, length}
use Rattle.std.specs.List.{All}
use Rattle.mcbench.proofs.beside.jobs_of.Given as goal

abbrev pub invariant-loop-reader : goal.invariant-loop-reader
invariant-loop-reader l = record {
  readers : All (λ r. r.of ≡ l.cache) l.readers.items;
  jobs : All (λ job. job.reader.of ≡ l.cache) l.jobs.items;
}

abbrev pub decreases-loop-reader : goal.decreases-loop-reader
decreases-loop-reader l = length l.readers.items
