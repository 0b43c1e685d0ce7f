use Rattle.mc_core.proofs.writer.Writer.is_other.Goals as goal
use Rattle.std.proofs.lemmas.Bool.{false≢true}
use Rattle.mc_core.specs.Inside.Writers.{shape_of_writer, words_of_writer}
use Rattle.mc_lookup.proofs.StageSteps.{both_trans}
use Rattle.mc_core.proofs.WrittenWords.{across}

pub returns-in-Some : goal.returns-in-Some
returns-in-Some g c =
    let w = c.args.self.now in
    let at = c.in-Some.ensures {u = tt} in
    both_trans c.is_across.ensures (across g.row.V (shape_of_writer w) (words_of_writer w) c.args.key _ _ c.args.place.bucket c.args.word c.requires at.0 at.1)

pub returns-in-None : goal.returns-in-None
returns-in-None g c = (λ h. absurd (false≢true h), λ here. absurd (c.in-None.ensures {u = tt} here.0 here.1 (c.requires.placed here.0 here.1 here.2) here.2))
