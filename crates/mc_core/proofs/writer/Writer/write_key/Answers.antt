use Rattle.mc_core.proofs.writer.Writer.write_key.Goals as goal
use Rattle.std.proofs.Common.{arith, refl}
use Rattle.mc_core.specs.Inside.Writers.{shape_of_writer, words_of_writer}
use Rattle.mc_theory.specs.declared.act.Act.TheVariants as act
use Rattle.mc_core.specs.declared.progress.Progress.TheVariants as progress
use Rattle.mc_core.proofs.MadeActs.{made, used_item}

pub returns : goal.returns
returns g c = λ bit.
    let w = c.args.self.now in
    let e = c.set_item.ensures in
    made w _ (omega arith) (act.Item c.args.i 0 c.args.word) bit (progress.Filling c.args.key) (progress.Keyed c.args.key c.args.i 0) c.requires.running refl e.shape e.words refl refl refl refl refl
    (rw (e.words, e.used, e.free) (used_item g.row.V (shape_of_writer w) (words_of_writer w) c.args.i 0 c.args.word w.table.used.items w.table.free c.requires.used))
