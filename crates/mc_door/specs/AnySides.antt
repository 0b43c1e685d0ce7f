-- What contracts see of what a handle keeps.
use Rattle.std.specs.Prelude.{ℕ}
use Rattle.mc_door.specs.Roles.{Role, role_of}
use Rattle.mc_door.specs.declared.any_side.AnySide.{AnySide}
use Rattle.mc_door.specs.declared.any_side.AnySide.TheVariants.{One, Two, Three, Four, Five, Six, Seven, Eight}

-- how many words a value has
abbrev pub width_of : AnySide → ℕ
width_of (One s) = 1
width_of (Two s) = 2
width_of (Three s) = 3
width_of (Four s) = 4
width_of (Five s) = 5
width_of (Six s) = 6
width_of (Seven s) = 7
width_of (Eight s) = 8

abbrev pub role_in : AnySide → Role
role_in (One s) = role_of s
role_in (Two s) = role_of s
role_in (Three s) = role_of s
role_in (Four s) = role_of s
role_in (Five s) = role_of s
role_in (Six s) = role_of s
role_in (Seven s) = role_of s
role_in (Eight s) = role_of s
