use Rattle.std.proofs.Common.{ltb, ltb-false, ltb-true, arith, rules}
use Rattle.std.proofs.lemmas.List.Sorted.{IsPartitionPoint-from_clause, IsPartitionedBy-ltb}
use Rattle.mc_check.specs.Inside.Mentions.{rank_of}
use Rattle.mc_check.proofs.mentions.count_before.Goals as goal

pub returns-clause-bound : goal.returns-clause-bound
returns-clause-bound c = λ sorted.
    let point = IsPartitionPoint-from_clause (λ m. ltb (rank_of m) c.args.bound) _ _ c.partition_point.ensures.partitioned (IsPartitionedBy-ltb rank_of c.args.mentions.now c.args.bound sorted) (λ a r q k. search rules) in
    record {
      within = c.partition_point.ensures.bound;
      below = λ i d low. ltb-true _ _ (point.0 i d (omega arith) low);
      above = λ i d from high. ltb-false _ _ (point.1 i d from high);
    }
