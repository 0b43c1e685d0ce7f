use Rattle.mc_core.proofs.writer.Writer.copy_slot.Goals as goal
use Rattle.std.proofs.Common.{refl, ◌∙◌, ◌+◌, ◌<◌, length, arith}
use Rattle.mc_words.specs.Places.{slot_number}
use Rattle.mc_core.specs.Inside.Writers.{shape_of_writer, words_of_writer}
use Rattle.mc_theory.specs.declared.act.Act.TheVariants as act
use Rattle.mc_core.specs.declared.progress.Progress.TheVariants as progress
use Rattle.mc_core.proofs.AllowedActs.{may_at}
use Rattle.mc_core.proofs.MadeActs.{made}
use Rattle.mc_core.proofs.ItemFlags.{used_copy}

pub returns : goal.returns
returns g c = λ bit.
    let w = c.args.self.now in
    let p = progress.Moving c.args.key in
    let may = may_at g.row.V (shape_of_writer w) (words_of_writer w) w.hand w.cleared w.written w.progress p (act.Slot c.args.place c.args.word) c.requires.running c.requires.may in
    let e = c.set_slot.ensures in
    let size : 1 + (shape_of_writer w).stripes + slot_number c.args.place < length (words_of_writer w) = omega (arith, w.table.size, may.1.0) in
    made w _ (omega arith) (act.Slot c.args.place c.args.word) bit p (progress.Moved c.args.key c.args.place) c.requires.running refl e.shape e.words refl refl refl refl refl
    (rw (e.words, e.used, e.free) (used_copy (shape_of_writer w) (words_of_writer w) w.table.used.items w.table.free (slot_number c.args.place) c.args.word may.2.2.names.tag may.2.1 may.2.0 w.table.checked.sound size may.1.1 (may.2.4 ∙ may.2.2.names.word) may.2.2.names c.requires.used))
