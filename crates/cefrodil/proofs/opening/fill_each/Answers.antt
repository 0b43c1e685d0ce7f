use Rattle.std.proofs.Common.{◌∙◌, ap, arith}
use mathlib.Core.Option.{some}
use Rattle.mc_door.specs.declared.any_side.AnySide.{AnySide}
use Rattle.cefrodil.proofs.Filling.{given_pass, passes_more}
use Rattle.cefrodil.proofs.opening.fill_each.Goals as goal

pub loop-handle-preserved : goal.loop-handle-preserved
loop-handle-preserved c =
    let given = given_pass c.loop-handle.rest c.next.new.self c.in-Ok.given c.in-Some.held c.in-Ok.ensures.given c.in-Some.is in
    let same = c.in-Ok.ensures.same in
    passes_more c.args.rest c.loop-handle.rest c.next.new.self c.loop-handle.handles c.loop-handle.handle-index c.put.new.self c.in-Some.held c.loop-handle.invariant (omega arith)
    same.0 same.1 (c.put.ensures.1 ∙ ap (λ (h : AnySide). some h) c.in-Some-boxed.ensures) given
