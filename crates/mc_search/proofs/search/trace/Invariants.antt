use Rattle.std.proofs.Common.{◌≡◌, ℕ, ◌+◌, ◌<◌, List, Bool, length}
use Rattle.mc_words.specs.declared.place.Place.{Place}
use Rattle.mc_words.specs.declared.shape.Shape.{Shape}
use Rattle.mc_words.specs.Chains.{IsHole}
use Rattle.mc_search.specs.Inside.Search.{IsQueue, IsTree, Follows, depth_at, bucket_at}
use Rattle.mc_search.proofs.search.trace.Given as goal

abbrev pub invariant-back : goal.invariant-back
invariant-back l = record {
  queued : l.at < length l.queue;
  many : length l.places.items + depth_at l.queue l.at ≡ depth_at l.queue l.end;
  follows : (sh : Shape) (w : List ℕ) (k : ℕ) (seen : List Bool) (hole : Place) → IsQueue l.queue seen → length seen ≡ sh.buckets → IsTree sh w k l.queue → IsHole sh w hole → hole.bucket ≡ bucket_at l.queue l.end → Follows sh w l.queue l.at l.places.items hole;
}

abbrev pub decreases-back : goal.decreases-back
decreases-back l = l.at
