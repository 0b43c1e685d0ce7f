-- A desk may be lent to threads, and its writer passes from one to another. A reader may be lent, too.
use denote.RattleType.{RattleType}
use denote.Hole.{as_row}
use denote.Struct.Field.{u64-field}
use denote.Param.Send.{IsSync, part_keyless, sendable, view_sync}
use denote.Param.SendFields.{as_row_sync, declared_sync}
use Rattle.counted_slot.proofs.Counted.TheSendSync.{the_sync as counted_sync}
use Rattle.atomic_table.proofs.badge.Badge.TheSendSync.{the_send as badge_send}
use Rattle.atomic_table.specs.contracts.badge.Badge as badge
use Rattle.mc_shared.proofs.Sent.{writer_sync as seat_sync}
use Rattle.mc_shared.specs.contracts.seats.ReaderSeat as reader_seat
use Rattle.mc_shared.specs.contracts.seats.WriterSeat as seat
use Rattle.mc_plan.proofs.books.Books.TheSendSync.{the_sync as books_sync}
use Rattle.mc_cache.proofs.writer.Writer.TheSendSync.{the_send as writer_send}
use Rattle.mc_cache.specs.contracts.desk.Desk as desk
use Rattle.mc_cache.specs.contracts.reader.Reader as reader
use Rattle.mc_cache.specs.contracts.writer.Writer as writer

moment_sync : IsSync (as_row u64-field)
moment_sync = search sendable depth 20

parts_sync : (V : RattleType) → IsSync (writer.TheInside.the_row V)
parts_sync V = declared_sync (writer.TheInside.the_type V) (as_row_sync seat.the_field seat_sync, (moment_sync, (books_sync, tt)))

pub writer_sync : (V : RattleType) → IsSync (writer.the_row V)
writer_sync V = view_sync (writer.TheInside.the_row V) _ _ _ _ (parts_sync V)

pub desk_sync : (V : RattleType) → IsSync (desk.the_row V)
desk_sync V = search (sendable, counted_sync, writer_sync, writer_send) depth 30

-- what is lent of a reader is its place alone
badge_sync : (V : RattleType) → IsSync (badge.the_row V)
badge_sync V = record { shared = λ d b o ν q. part_keyless (badge.the_row V) (badge_send V) q d b o }

reader_seat_sync : IsSync reader_seat.the_row
reader_seat_sync = search (sendable, badge_sync) depth 20

pub reader_sync : (V : RattleType) → IsSync (reader.the_row V)
reader_sync V = search (sendable, reader_seat_sync) depth 20
