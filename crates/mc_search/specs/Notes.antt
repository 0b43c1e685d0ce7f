-- What notes of keys have.
use Rattle.std.specs.Prelude.{◌≡◌, ◌^◌, ◌<◌, ◌≤◌, length}
use Rattle.mc_search.specs.declared.notes.Notes.{Notes}

-- some places are used, and there are not more
pub record AreNotes (n : Notes) : Type 0 where
  pub some : 0 < n.places
  pub within : n.places ≤ length n.prints.items
  pub few : length n.prints.items < 2 ^ 31
