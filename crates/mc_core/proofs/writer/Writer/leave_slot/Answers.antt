use Rattle.mc_core.proofs.writer.Writer.leave_slot.Goals as goal
use Rattle.std.proofs.Common.{ℕ, subst, refl, sym, ◌+◌, ◌<◌, length, arith}
use Rattle.mc_words.specs.Places.{slot_number}
use Rattle.mc_core.specs.Inside.Writers.{shape_of_writer, words_of_writer}
use Rattle.mc_theory.specs.declared.act.Act.TheVariants as act
use Rattle.mc_core.specs.declared.progress.Progress.TheVariants as progress
use Rattle.mc_words.specs.Standing.{NamesItem}
use Rattle.mc_core.proofs.AllowedActs.{may_at}
use Rattle.mc_core.proofs.WrittenWords.{holds_at}
use Rattle.mc_core.proofs.MadeActs.{made}
use Rattle.mc_core.proofs.ItemFlags.{used_leave}

pub returns : goal.returns
returns g c = λ bit.
    let w = c.args.self.now in
    let p = progress.Moved c.args.key c.args.fresh in
    let may = may_at g.row.V (shape_of_writer w) (words_of_writer w) w.hand w.cleared w.written w.progress p (act.Slot c.args.place c.args.word) c.requires.running c.requires.may in
    let holds = holds_at g.row.V (shape_of_writer w) (words_of_writer w) w.history.items w.written w.progress p c.requires.running c.requires.holds in
    let twice = holds.deed.2 in
    let gone = may.3.1 in
    let of = twice.twice (slot_number c.args.place) may.3.0 gone in
    let e = c.set_slot.ensures in
    let size : 1 + (shape_of_writer w).stripes + slot_number c.args.place < length (words_of_writer w) = omega (arith, w.table.size, gone.names.in_table) in
    made w _ (omega arith) (act.Slot c.args.place c.args.word) bit p (progress.Closing c.args.key) c.requires.running refl e.shape e.words refl refl refl refl refl
    (rw (e.words, e.used, e.free) (used_leave (shape_of_writer w) (words_of_writer w) w.table.used.items w.table.free (slot_number c.args.place) c.args.word may.3.0 (slot_number c.args.fresh) w.table.checked.sound size may.1 gone.names (subst (λ (y : ℕ). NamesItem (shape_of_writer w) (words_of_writer w) (slot_number c.args.fresh) y) (sym of.1) twice.here.names) (λ e. may.2 (sym e)) c.requires.used))
