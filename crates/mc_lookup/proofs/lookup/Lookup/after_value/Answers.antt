use Rattle.std.proofs.Common.{◌≡◌, ◌+◌, refl, ◌∙◌, arith}
use Rattle.std.proofs.lemmas.Bool.{cond_below, cond_above}
use Rattle.mc_words.proofs.Payload.{payload_is}
use Rattle.mc_lookup.specs.Machine.{shape_for, values_from}
use Rattle.mc_theory.specs.declared.access.Access.TheVariants as access
use Rattle.mc_lookup.specs.declared.stage.Stage.TheVariants as stage
use Rattle.mc_lookup.proofs.StageSteps.{takes_at, left_value, steps_values}
use Rattle.mc_lookup.proofs.lookup.Lookup.after_value.Goals as goal
use Rattle.mc_lookup.proofs.lookup.Lookup.after_value.Goals.{then-from, else-from}

pub returns-clause-takes : goal.returns-clause-takes
returns-clause-takes g c =
    let l = c.args.self.now in
    let i = c.args.i in
    let more = c.args.count + 1 in
    let below = rw c.requires at l.word_in in
    let then : c.if-from.self ≡ values_from g.row.V i more = elim c.if-from.branch [
      | then-from w ↦ w.self-is ∙ cond_below more g.row.V (stage.Value i more) (stage.Stamp i) (omega (arith, w.if-from.true, c.from.ensures))
      | else-from w ↦ w.self-is ∙ cond_above more g.row.V (stage.Value i more) (stage.Stamp i) (stage.Stamp i) (omega (arith, w.if-from.false, c.from.ensures)) refl
    ] in
    takes_at l _ (stage.Value i c.args.count) (values_from g.row.V i more) (access.Value i more) c.args.word c.requires then refl refl
    (λ f rs reply. left_value g.row.V (shape_for l) l.key l.tries l.version l.value l.since l.reply i c.args.count c.args.word f rs reply l.whole below)
    (omega (arith, below, payload_is g.row.V, steps_values g.row.V l.tries i more (omega (arith, below))))
