use Rattle.mc_core.proofs.writer.Writer.clear_slot.Goals as goal
use Rattle.std.proofs.Common.{refl, ◌+◌, ◌<◌, length, arith}
use Rattle.mc_words.specs.Places.{slot_number}
use Rattle.mc_core.specs.Inside.Writers.{shape_of_writer, words_of_writer}
use Rattle.mc_theory.specs.declared.act.Act.TheVariants as act
use Rattle.mc_core.specs.declared.progress.Progress.TheVariants as progress
use Rattle.mc_core.proofs.AllowedActs.{may_at, only_one}
use Rattle.mc_core.proofs.WrittenWords.{holds_at}
use Rattle.mc_core.proofs.MadeActs.{made}
use Rattle.mc_core.proofs.ItemFlags.{used_clear, up_of, downs_room}

pub overflow_add-self : goal.overflow_add-self
overflow_add-self g c =
    let w = c.args.self.now in
    let here = c.in-Some.ensures {u = tt} in
    let up = up_of (shape_of_writer w) (words_of_writer w) w.table.used.items w.table.free (slot_number c.args.place) c.in-Some.i c.requires.used here.names in
    let room = downs_room w.table.used.items c.in-Some.i (omega (arith, here.names.in_items, w.table.flags)) up in
    let shape = w.table.checked.sound in
    rw c.set_slot.ensures.free (omega (arith, room, c.requires.used.many, w.table.flags, shape.items.1, shape.buckets.1))

pub returns-in-Some : goal.returns-in-Some
returns-in-Some g c = λ bit.
    let w = c.args.self.now in
    let p = progress.Removing c.args.key c.args.evicts in
    let holds = holds_at g.row.V (shape_of_writer w) (words_of_writer w) w.history.items w.written w.progress p c.requires.running c.requires.holds in
    let may = may_at g.row.V (shape_of_writer w) (words_of_writer w) w.hand w.cleared w.written w.progress p (act.Slot c.args.place c.args.word) c.requires.running c.requires.may in
    let here = c.in-Some.ensures {u = tt} in
    let e = c.set_slot.ensures in
    let size : 1 + (shape_of_writer w).stripes + slot_number c.args.place < length (words_of_writer w) = omega (arith, w.table.size, here.names.in_table) in
    let only = holds.deed.0 in
    made w _ (omega arith) (act.Slot c.args.place c.args.word) bit p (progress.Removed c.args.key c.args.evicts) c.requires.running refl e.shape e.words refl refl refl refl refl
    (rw (e.words, e.used, e.free) (used_clear (shape_of_writer w) (words_of_writer w) w.table.used.items w.table.free (slot_number c.args.place) c.args.word c.in-Some.i w.table.flags size may.1 here.names w.table.checked.sound
    (only_one g.row.V (shape_of_writer w) (words_of_writer w) c.args.key only.0 only.1 (slot_number c.args.place) c.in-Some.i only.2 here) c.requires.used))
