use Rattle.mc_core.proofs.writer.Writer.turn_hand.Goals as goal
use Rattle.std.proofs.Common.{arith, refl, ◌∙◌, ◌≡◌, ◌≢◌, ◌+◌, ◌%◌, ◌⊎◌, Some, None, inl, inr}
use Rattle.mc_core.specs.Inside.Writers.{shape_of_writer}
use Rattle.mc_theory.specs.declared.act.Act.TheVariants as act
use Rattle.mc_core.specs.declared.progress.Progress.TheVariants as progress
use Rattle.mc_theory.proofs.Lists.HandTurns.{turn_over, turn_on}
use Rattle.mc_core.proofs.MadeActs.{made, cleared_by}
use Rattle.mc_core.proofs.writer.Writer.turn_hand.Goals.{then-next-shape, else-next-shape, then-bit-eq0, else-bit-eq0}

pub returns : goal.returns
returns g c =
    let w = c.args.self.now in
    let i = c.args.i in
    let items = (shape_of_writer w).items in
    let hand : c.if-next-shape.self ≡ (i + 1) % items = elim c.if-next-shape.branch [
      | then-next-shape v ↦ v.self-is ∙ turn_over i items (rw c.shape.ensures at v.if-next-shape.true)
      | else-next-shape v ↦ v.self-is ∙ turn_on i items c.requires.item (rw c.shape.ensures at v.if-next-shape.false)
    ] in
    let told : ((c.args.bit ≡ 0) × (c.if-bit-eq0.self ≡ Some i)) ⊎ ((c.args.bit ≢ 0) × (c.if-bit-eq0.self ≡ None)) = elim c.if-bit-eq0.branch [
      | then-bit-eq0 v ↦ inl (v.if-bit-eq0.true, v.self-is)
      | else-bit-eq0 v ↦ inr (v.if-bit-eq0.false, v.self-is)
    ] in
    made w _ (omega arith) (act.Hand i) c.args.bit progress.Quiet progress.Quiet c.requires.quiet c.requires.quiet refl refl refl hand (cleared_by i c.args.bit c.if-bit-eq0.self told) refl refl c.requires.used
