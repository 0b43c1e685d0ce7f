use Rattle.std.proofs.Common.{◌≡◌, map}
use Rattle.std.specs.List.{All}
use Rattle.mc_cache.specs.Plain.{IsLegal, history}
use Rattle.mc_shards.specs.Lending.{table_of}
use Rattle.mc_shards.proofs.opening.lenders_of.Given as goal

abbrev pub invariant-loop-writer : goal.invariant-loop-writer
invariant-loop-writer g l = record {
  lenders : map table_of l.lenders.items ≡ map (λ w. w.of) l.yielded;
  legal : All (λ w. IsLegal w.of.layout.shape.items (history g.row.V w)) l.yielded;
}
