-- What is behind a handle while a call has it.
use mathlib.Core.Option.{some}
use Rattle.std.specs.Borrow.{Fml, Lends, MutBor}
use Rattle.mc_door.specs.contracts.any_side.AnySide as held
use Rattle.mc_door.specs.declared.any_side.AnySide.{AnySide}
use Rattle.cefrodil.specs.contracts.handle.Handle.{the_row}
use Rattle.cefrodil.specs.declared.handle.Handle.{Handle}

-- the same handle with this behind it
abbrev pub with_held : Handle → AnySide → Handle
with_held h w = record h { value = some w }

-- at the end of the loan, what was left is behind the handle
abbrev pub LendsHeld : MutBor Handle → MutBor AnySide → Fml
LendsHeld s r = Lends the_row held.the_row s r (with_held s.now)
