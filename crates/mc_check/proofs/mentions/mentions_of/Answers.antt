use Rattle.std.proofs.Common.{rules}
use Rattle.std.proofs.lemmas.List.Sorted.{IsNonDecreasingBy-from_sort_by_key}
use Rattle.mc_check.specs.Inside.Mentions.{rank_of}
use Rattle.mc_check.proofs.SortedMentions.{sorted_mentions}
use Rattle.mc_check.proofs.mentions.mentions_of.Goals as goal

pub returns : goal.returns
returns g c =
    sorted_mentions c.args.history.now c.in_ok-mentions.mentions.items c.sort_unstable_by_key.new.self.items c.in_ok-mentions.ensures c.sort_unstable_by_key.ensures.permutation
    (IsNonDecreasingBy-from_sort_by_key rank_of _ c.sort_unstable_by_key.ensures.sorted (λ a r q k. search rules))
