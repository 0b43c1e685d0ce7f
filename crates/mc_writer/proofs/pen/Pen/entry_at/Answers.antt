use Rattle.std.proofs.Common.{◌≡◌, None, ap, refl, subst}
use Rattle.mc_words.specs.Checks.{shape_of}
use Rattle.mc_words.specs.Standing.{Agrees, Stands}
use Rattle.mc_words.specs.declared.shape.Shape.{Shape}
use Rattle.mc_shared.specs.declared.layout.Layout.{Layout}
use Rattle.mc_writer.specs.Inside.Pens.{state_at}
use Rattle.mc_writer.proofs.pen.Pen.entry_at.Goals as goal

pub returns-clause-holds : goal.returns-clause-holds
returns-clause-holds g c h agrees =
    let V = g.row.V in
    let pen = c.args.self.now in
    let w = (state_at V pen).words in
    let shape : pen.cells.now.layout.shape ≡ shape_of c.checked.result.now = ap (λ (l : Layout). l.shape) c.checked.ensures.layout in
    let q = c.requires.stands.0 in
    (refl, c.held_at-held.ensures.found h c.args.key q (subst (λ (x : Shape). Agrees V x w None h) shape agrees) (subst (λ (x : Shape). Stands V x w c.args.key q c.args.item) shape c.requires.stands.1))
