-- The writer's seat is handed from thread to thread, and what is lent of it is its place alone.
use denote.Param.Send.{IsSend, IsSync, part_keyless, sendable}
use denote.RattleType.{RattleType}
use Rattle.atomic_table.specs.contracts.shared.Seat as seat
use Rattle.atomic_table.proofs.shared.Seat.TheSendSync.{the_send as seat_send}
use Rattle.mc_shared.specs.contracts.seats.WriterSeat as writer

seat_sync : (S V : RattleType) → IsSend S → IsSync (seat.the_row S V)
seat_sync S V s = record { shared = λ d b o ν q. part_keyless (seat.the_row S V) (seat_send S V s) q d b o }

pub writer_send : IsSend writer.the_row
writer_send = search (sendable, seat_send) depth 20

pub writer_sync : IsSync writer.the_row
writer_sync = search (sendable, seat_sync) depth 20
