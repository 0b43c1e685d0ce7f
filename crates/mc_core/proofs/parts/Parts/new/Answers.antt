use Rattle.std.proofs.Common.{ℕ, refl, ap, ◌∙◌, replicate}
use Rattle.mc_words.specs.declared.shape.Shape.{Shape}
use Rattle.mc_core.proofs.NewWorld.{filled, new_stands}
use Rattle.mc_core.proofs.parts.Parts.new.Goals as goal

pub returns : goal.returns
returns g c =
    let w = c.in_ok-writer.ensures in
    let bits = filled _ _ _ _ _ (c.in_ok-resize.ensures {u = tt}).items c.new-bits.ensures.items c.new-bits.ensures.len in
    let lookups = filled _ _ _ _ _ (c.in_ok-resize-2.ensures {u = tt}).items c.new-lookups.ensures.items c.new-lookups.ensures.len in
    (w.0, new_stands _ _ c.args.readers w.0 w.1 w.2 (bits ∙ ap (λ (sh : Shape). replicate {A = ℕ} sh.items 0) c.shape.ensures) lookups refl)
