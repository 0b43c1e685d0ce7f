-- The readings of a search for an item that gives way.
use Rattle.std.specs.Prelude.{ℕ, ◌≡◌, ◌+◌, ◌*◌, ◌<◌, ◌≤◌, List, length, slice_index_or}
use Rattle.mc_search.specs.Sweeps.{Swept, AreMarked, victim_of}
use Rattle.mc_search.specs.Choices.{IsInUse}
use Rattle.mc_search.specs.declared.choice.Choice.{Choice}
use Rattle.mc_search.specs.declared.pick.Pick.{Pick}

-- these are the readings of the search so far: each of an item in use, and no bit but perhaps the last was clear. They are to be at most twice
-- as many as the search may look at items
pub record HasPicked (c : Choice) (p : Pick) (rs : List Swept) : Type 0 where
  pub in_use : (n : ℕ) (d : Swept) → n < length rs → IsInUse c (slice_index_or rs n d).item
  pub marked : AreMarked rs
  pub left : length rs + p.left ≡ 2 * p.items
  pub few : p.items ≤ c.items
  pub found : p.victim ≡ victim_of rs
