use Rattle.mc_core.proofs.writer.Writer.close_deed_of.Goals as goal
use Rattle.std.proofs.Common.{arith, refl}
use Rattle.mc_core.specs.Inside.Writers.{shape_of_writer, words_of_writer}
use Rattle.mc_theory.specs.declared.act.Act.TheVariants as act
use Rattle.mc_core.specs.declared.progress.Progress.TheVariants as progress
use Rattle.mc_core.proofs.MadeActs.{made, used_bumped}

pub returns : goal.returns
returns g c = λ bit.
    let w = c.args.self.now in
    let e = c.bump.ensures in
    made w _ (omega arith) act.Close bit (progress.Closing c.args.key) progress.Quiet c.requires.running refl e.shape e.words refl refl refl refl refl
    (rw (e.words, e.used, e.free) (used_bumped (shape_of_writer w) (words_of_writer w) c.args.key w.table.used.items w.table.free w.table.checked.sound c.requires.used))
