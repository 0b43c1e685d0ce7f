-- What is behind the address that C keeps.
use mathlib.Core.Option.{Option, none, some}
use base.Fml.{Fml, ftrue}
use denote.RawPtr.{Ptr}
use Rattle.std.specs.Box.Ownership.{box_owns}
use Rattle.std.specs.Global.{Global}
use Rattle.std.specs.contracts.impls.GlobalAllocator.TheImpl.{ghosts}
use Rattle.mc_door.specs.declared.any_side.AnySide.{AnySide}
use Rattle.mc_door.specs.contracts.any_side.AnySide as held

-- nothing, or a box with the value and the right to free it
abbrev pub kept_at : Global → Ptr → Option AnySide → Fml
kept_at a p none = ftrue
kept_at a p (some x) = box_owns (ghosts.dealloc_token a) held.the_row p x
