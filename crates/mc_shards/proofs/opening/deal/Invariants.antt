use Rattle.std.proofs.Common.{◌≡◌, ◌+◌, ◌≤◌, [], ◌∷◌, ◌++◌, length}
use Rattle.std.specs.List.{All}
use Rattle.mc_shards.specs.Inside.Dealt.{AreDealt}
use Rattle.mc_shards.proofs.opening.deal.Given as goal

abbrev pub invariant-loop-pass : goal.invariant-loop-pass
invariant-loop-pass g l = record {
  many : length l.given.items ≤ length l.readers.items;
  count : length l.dealt.items + length l.given.items ≡ length l.fn.given.items;
  rest : length l.readers.items + length l.fn.given.items ≡ length l.given.items + length l.fn.readers.items;
  fresh : All (λ r. (r.of ≡ l.cache) × (r.front ≡ [])) l.readers.items;
  given : All (AreDealt l.caches.items) l.given.items;
  dealt : All (AreDealt (l.caches.items ++ l.cache ∷ [])) l.dealt.items;
}

abbrev pub decreases-loop-pass : goal.decreases-loop-pass
decreases-loop-pass g l = length l.given.items
