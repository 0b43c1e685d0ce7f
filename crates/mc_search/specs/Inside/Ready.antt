-- A finder between two searches.
use Rattle.std.specs.Prelude.{◌≡◌, ◌≤◌, [], length, vec_capacity}
use Rattle.mc_search.specs.declared.finder.Finder.TheInside.{Inside}
use Rattle.mc_search.specs.Inside.Search.{IsUnmarked}

-- nothing is queued, no bucket is marked, and all buckets would fit into the queue
pub record IsReady (f : Inside) : Type 0 where
  pub empty : f.queue.items ≡ []
  pub size : length f.seen.items ≡ f.checked.shape.buckets
  pub room : length f.seen.items ≤ vec_capacity f.queue
  pub unmarked : IsUnmarked f.seen.items
