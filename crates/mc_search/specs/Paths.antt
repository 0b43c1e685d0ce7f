-- A shortest path to a hole.
use Rattle.std.specs.Prelude.{ℕ, ◌≡◌, ◌≤◌, ◌⊎◌, [], ◌∷◌, ◌++◌, Contains, List, length}
use Rattle.mc_words.specs.declared.place.Place.{Place}
use Rattle.mc_words.specs.declared.shape.Shape.{Shape}
use Rattle.mc_words.specs.declared.key_parts.KeyParts.{KeyParts}
use Rattle.mc_words.specs.Chains.{IsChain, NoChain}
use Rattle.mc_words.specs.KeyParts.{HasParts}
use Rattle.mc_search.specs.declared.room.OneMove.{OneMove}
use Rattle.mc_search.specs.declared.room.Room.{Room}
use Rattle.mc_search.specs.declared.room.Room.TheVariants as room
use Rattle.mc_search.specs.declared.path.Path.{Path}

-- a chain from the key, within the depth of the shape, and none is shorter
pub record IsLeastPath (sh : Shape) (w : List ℕ) (k : ℕ) (p : Path) : Type 0 where
  pub chain : IsChain sh w k p.places.items p.hole
  pub within : length p.places.items ≤ sh.depth
  pub least : (places : List Place) (hole : Place) → IsChain sh w k places hole → length p.places.items ≤ length places

-- the path that moves nothing
abbrev pub direct_path : Place → Path
direct_path hole = record { places = record { items = [] }; hole = hole }

-- the places before the victim, and the victim's as the hole; or all of them, if the victim is none of the places
abbrev pub IsCut : Place → List Place → Place → List Place → Place → Type 0
IsCut victim places hole kept end =
    ((after : List Place) × (places ≡ kept ++ victim ∷ after) × (Contains kept victim → ⊥) × (end ≡ victim)) ⊎
    ((Contains places victim → ⊥) × (kept ≡ places) × (end ≡ hole))

-- the first of the places, or the hole if there is none
abbrev pub first_place : List Place → Place → Place
first_place [] hole = hole
first_place (p ∷ ps) hole = p

-- the path of one place
abbrev pub path_of_move : OneMove → Path
path_of_move m = record { places = record { items = m.from ∷ [] }; hole = m.hole }

-- and that of a room, if the kept path is this one
abbrev pub path_of_room : Path → Room → Path
path_of_room kept (room.Hole hole) = direct_path hole
path_of_room kept (room.Move m) = path_of_move m
path_of_room kept room.Path = kept

-- the key has these parts, and both of its buckets are full: each chain from it moves another key
pub record IsCrowded (sh : Shape) (w : List ℕ) (k : ℕ) (parts : KeyParts) : Type 0 where
  pub has : HasParts sh k parts
  pub full : NoChain sh w k 0
