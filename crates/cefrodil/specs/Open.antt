-- What an open handle keeps.
use Rattle.std.specs.Prelude.{Bool, true, false}
use mathlib.Core.Option.{Option, none}
use Rattle.mc_door.specs.declared.any_side.AnySide.{AnySide}
use Rattle.cefrodil.specs.declared.raw_handle.RawHandle.{RawHandle}

abbrev pub where_live : Bool → Option AnySide → Option AnySide
where_live true held = held
where_live false held = none

-- what is behind the handle, if it is open
abbrev pub kept : RawHandle → Option AnySide
kept s = where_live s.live s.handle.value
