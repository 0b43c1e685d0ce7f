-- What is behind a handle may be sent to another thread: each side of a cache may, as its parts may.
use denote.RattleType.{RattleType}
use denote.Param.Send.{IsSend, IsSync, sendable}
use Rattle.std.proofs.Crossing.{crosses}
use Rattle.counted_slot.proofs.Counted.TheSendSync.{the_send as counted_send, the_sync as counted_sync}
use Rattle.mc_shards.proofs.Sent.{holder_send, pass_send, shards_sync, spares_send, spares_sync}
use Rattle.mc_shards.proofs.shards.Shards.TheSendSync.{the_send as shards_send}
use Rattle.mc_door.specs.contracts.any_side.AnySide as held
use Rattle.mc_door.specs.contracts.holder_side.HolderSide as holder
use Rattle.mc_door.specs.contracts.pass_side.PassSide as pass
use Rattle.mc_door.specs.contracts.shared.Kept as kept
use Rattle.mc_door.specs.contracts.shared.Shared as shared
use Rattle.mc_door.specs.contracts.side.Hand as hand
use Rattle.mc_door.specs.contracts.side.Side as side

-- one for each field's row, because a `search` through all of them runs out of steps
kept_send : (V : RattleType) → IsSend (kept.the_field V).row
kept_send V = search (sendable, spares_send) depth 20

kept_sync : (V : RattleType) → IsSync (kept.the_field V).row
kept_sync V = search (sendable, spares_sync) depth 20

shared_send : (V : RattleType) → IsSend (shared.the_field V).row
shared_send V = search (sendable, crosses, shards_send, counted_send, kept_send) depth 30

shared_sync : (V : RattleType) → IsSync (shared.the_field V).row
shared_sync V = search (sendable, crosses, shards_sync, counted_sync, kept_send, kept_sync) depth 30

pass_side_send : (V : RattleType) → IsSend (pass.the_field V).row
pass_side_send V = search (sendable, crosses, shared_send, shared_sync, pass_send) depth 30

holder_side_send : (V : RattleType) → IsSend (holder.the_field V).row
holder_side_send V = search (sendable, crosses, shared_send, shared_sync, holder_send) depth 30

hand_send : (V : RattleType) → IsSend (hand.the_field V).row
hand_send V = search (sendable, pass_side_send, holder_side_send) depth 20

side_send : (V : RattleType) → IsSend (side.the_field V).row
side_send V = search (sendable, hand_send) depth 20

pub held_send : IsSend held.the_row
held_send = search (sendable, side_send) depth 20
