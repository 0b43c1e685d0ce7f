-- A handle may be sent to another thread: its allocator may, what is behind it may, and any thread may free its block.
use mathlib.Core.Option.{Option, none, some}
use mir.Raw.{raw}
use base.Shift.{Keyless}
use denote.Memory.{lone}
use denote.RawPtr.{Ptr}
use denote.Struct.Struct.{exits_of}
use denote.Struct.Owning.{shape, fields, to}
use denote.Param.Send.{IsSend, AllSend, owning_send, struct_send, sendable}
use Rattle.std.proofs.Crossing as heap
use Rattle.std.specs.Global.{Global}
use Rattle.std_alloc.proofs.SendSync.{quiet, lies}
use Rattle.std.proofs.alloc.Global.TheSendSync as allocator
use Rattle.mc_door.specs.declared.any_side.AnySide.{AnySide}
use Rattle.mc_door.specs.contracts.any_side.AnySide as held
use Rattle.cefrodil.proofs.Sent.{held_send}
use Rattle.cefrodil.specs.Kept.{kept_at}
use Rattle.cefrodil.specs.contracts.handle.Handle.{the_row, the_type}

crosses : (a : Global) (p : Ptr) (kept : Option AnySide) → Keyless (kept_at a p kept)
crosses a p none = tt
crosses a p (some x) = (lies held.the_row held_send p x, heap.frees.frees a (raw (lone held.the_row.mir)) p)

pub send : IsSend the_row
send =
    let all : AllSend (fields the_type) = (search sendable, (allocator.the_field_send, tt)) in
    owning_send the_type all (λ h. crosses h.alloc h.at h.value)
    (λ k. quiet (to the_type) (exits_of k (fields the_type)) ((struct_send (shape the_type) all).leaving k))
