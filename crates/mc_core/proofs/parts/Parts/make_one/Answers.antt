use Rattle.std.proofs.Common.{◌++◌, sym, ap, ◌∙◌}
use Rattle.std.proofs.lemmas.List.{append-nil}
use Rattle.mc_theory.specs.declared.event.Stepped.{Stepped}
use Rattle.mc_core.proofs.EventLists.{done_of, made_one}
use Rattle.mc_core.proofs.parts.Parts.make_one.Goals as goal

pub returns-in-Ok-Done-clause-made : goal.returns-in-Ok-Done-clause-made
returns-in-Ok-Done-clause-made g c =
    let old = c.args.self.now in
    let before = c.args.done.now.items in
    let told = ap (λ (out : Stepped g.row.V). before ++ done_of {V = g.row.V} out) (sym c.in-Ok-Done.field-0-is) in
    made_one old c.step.new.self c.args.event _ before c.keep.new.done.items (c.in-Ok-Done.ensures {u = tt}).made (c.keep.ensures.items ∙ told)

pub returns-in-Ok-Nothing-clause-made : goal.returns-in-Ok-Nothing-clause-made
returns-in-Ok-Nothing-clause-made g c =
    let old = c.args.self.now in
    let before = c.args.done.now.items in
    let told = ap (λ (out : Stepped g.row.V). before ++ done_of {V = g.row.V} out) (sym c.in-Ok-Nothing.field-0-is) in
    made_one old c.step.new.self c.args.event _ before before (c.in-Ok-Nothing.ensures {u = tt}).made (sym (append-nil before) ∙ told)

pub returns-in-Ok-Word-clause-made : goal.returns-in-Ok-Word-clause-made
returns-in-Ok-Word-clause-made g c =
    let old = c.args.self.now in
    let before = c.args.done.now.items in
    let told = ap (λ (out : Stepped g.row.V). before ++ done_of {V = g.row.V} out) (sym c.in-Ok-Word.field-0-is) in
    made_one old c.step.new.self c.args.event _ before before (c.in-Ok-Word.ensures {u = tt}).made (sym (append-nil before) ∙ told)
