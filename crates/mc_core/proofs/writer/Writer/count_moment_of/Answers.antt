use Rattle.mc_core.proofs.writer.Writer.count_moment_of.Goals as goal
use Rattle.std.proofs.Common.{arith, refl, ap, sym, ◌∙◌, ◌++◌, List}
use Rattle.mc_words.proofs.Places.{slot-with_moment}
use Rattle.mc_words.specs.declared.history.Change.{Change}
use Rattle.mc_core.specs.Inside.Writers.{shape_of_writer, words_of_writer}
use Rattle.mc_theory.specs.declared.act.Act.TheVariants as act
use Rattle.mc_core.specs.declared.progress.Progress.TheVariants as progress
use Rattle.mc_core.proofs.FreeFlags.{used_kept}
use Rattle.mc_core.proofs.MadeActs.{made}

pub returns-clause-ok : goal.returns-clause-ok
returns-clause-ok g c = λ bit.
    let w = c.args.self.now in
    let e = c.tick.ensures in
    made w _ (omega (arith, c.in_ok-push.ensures.len, c.in_ok-push.ensures.capacity)) act.Moment bit w.progress (progress.Closing c.args.key) refl refl e.shape e.words (sym c.requires.phase) refl refl (c.in_ok-push.ensures.items ∙ ap (λ (ys : List (Change g.row.V)). w.history.items ++ ys) (sym c.requires.change)) refl
    (rw (e.words, e.used, e.free) (used_kept (shape_of_writer w) (words_of_writer w) _ w.table.used.items w.table.free (λ q l. slot-with_moment (shape_of_writer w) (words_of_writer w) q _) c.requires.used))
